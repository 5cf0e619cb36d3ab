-- Undoing one instruction after another.
use Rattle.std.proofs.Common.{◌≡◌, ℕ, zero, suc, ◌-◌, ◌<◌, ◌≤◌, Bool, true, false, not, List, [], ◌∷◌, length, get_or, take, map, filter, Option, refl, sym, ap, ◌∙◌, arith}
use Rattle.std.specs.Prelude.{All, nat_lt, if◌then◌else◌}
use Rattle.std.specs.List.{list_any}
use Rattle.std.proofs.lemmas.Bool.Decides.{nat_tests}
use Rattle.std.proofs.lemmas.List.{set-set, get_or-set_same, set-get_or, take_all, take-take, length-take-le, length-map, get_or-take}
use Rattle.std.proofs.lemmas.List.Elements.{All-head, All-tail}
use Rattle.reorder_buffer.specs.Growing.{IsGrowing, below}
use Rattle.reorder_buffer.proofs.Stamps.{take-below}
use Rattle.circular_buffer.specs.Buffer.{Buffer}
use Rattle.issue_queue.specs.IssueQueue.{IssueQueue, is_from}
use Rattle.data_flow.specs.declared.operands.Renamed.{Renamed}
use Rattle.data_flow.specs.declared.data_flow.DataFlow.TheInside.{Inside}
use Rattle.data_flow.specs.Flow.{Node, Lane, Waiter, Flow, lane, no_lane, no_node, node_at, with_lane, without_newest, kept, cut_from, cut_flow, left_in, waits_in, is_waiter, is_waiter_from}
use Rattle.data_flow.specs.Wired.{waiter_of, IsWaiting, node_of, flow, IsWiredUp, no_buffer, no_renamed}
use Rattle.data_flow.proofs.LaneEvents.{stamp_of}
use Rattle.data_flow.proofs.Places.{here_unread}
use Rattle.data_flow.proofs.Steps.{shown}
use Rattle.data_flow.proofs.Ties.{get_or-map, lengths}
use Rattle.data_flow.proofs.Waiters.{waiters_dropped, none_from}
use Rattle.data_flow.proofs.Waits.{waiting_filter}

-- the stamp of an instruction
abbrev pub node_stamp : Node → ℕ
node_stamp n = n.operands.stamp

-- ---- how many are below a stamp, where stamps grow

module _ {X : Type 0} (stamp : X → ℕ) (k : ℕ) where
  growing_rest : (x : X) (xs : List X) → IsGrowing stamp (x ∷ xs) → IsGrowing stamp xs
  growing_rest x xs grows i j d lt in_range = grows (suc i) (suc j) d (omega arith) (omega arith)

  -- those after them aren't below it
  pub past_count : (xs : List X) → IsGrowing stamp xs → (i : ℕ) (d : X) → length (below stamp k xs) ≤ i → i < length xs → k ≤ stamp (get_or xs i d)
  past_count [] grows i d from lt = absurd (omega arith)
  past_count (x ∷ xs) grows i d from lt = by_test (λ j. past_count xs (growing_rest x xs grows) j d) (nat_lt (stamp x) k) refl i from lt
    where
      by_test : ((j : ℕ) → length (below stamp k xs) ≤ j → j < length xs → k ≤ stamp (get_or xs j d)) → (b : Bool) → nat_lt (stamp x) k ≡ b → (j : ℕ) → length (if b then x ∷ below stamp k xs else below stamp k xs) ≤ j → j < length (x ∷ xs) → k ≤ stamp (get_or (x ∷ xs) j d)
      by_test rest true is zero ge in_range = absurd (omega arith)
      by_test rest true is (suc j) ge in_range = rest j (omega arith) (omega arith)
      by_test rest false is zero ge in_range = grind (arith, nat_tests, is)
      by_test rest false is (suc j) ge in_range =
          let first : k ≤ stamp x = grind (arith, nat_tests, is) in
          omega (arith, first, grows 0 (suc j) d (omega arith) in_range)

  -- they are the oldest
  pub take_count : (xs : List X) → IsGrowing stamp xs → take (length (below stamp k xs)) xs ≡ below stamp k xs
  take_count [] grows = refl
  take_count (x ∷ xs) grows = by_test (take_count xs (growing_rest x xs grows)) (nat_lt (stamp x) k) refl
    where
      by_test : take (length (below stamp k xs)) xs ≡ below stamp k xs → (b : Bool) → nat_lt (stamp x) k ≡ b → let ys = if b then x ∷ below stamp k xs else below stamp k xs in take (length ys) (x ∷ xs) ≡ ys
      by_test rest true is = ap (λ (ys : List X). x ∷ ys) rest
      by_test rest false is =
          let first : k ≤ stamp x = grind (arith, nat_tests, is) in
          let none : [] ≡ below stamp k xs = take-below stamp k 0 xs (omega arith) (λ i d lt. absurd (omega arith)) (λ i d le lt. omega (arith, first, grows 0 (suc i) d (omega arith) (omega (arith, lt)))) in
          rw (← none) refl

  count_fits : (xs : List X) → length (below stamp k xs) ≤ length xs
  count_fits [] = omega arith
  count_fits (x ∷ xs) = by_test (count_fits xs) (nat_lt (stamp x) k)
    where
      by_test : length (below stamp k xs) ≤ length xs → (b : Bool) → length (if b then x ∷ below stamp k xs else below stamp k xs) ≤ length (x ∷ xs)
      by_test rest true = omega (arith, rest)
      by_test rest false = omega (arith, rest)

-- ---- the oldest of a lane

-- a context with other instructions
abbrev with_nodes : Lane → List Node → Lane
with_nodes l ns = record l { nodes = ns }

-- a context whose stamps grow
pub record IsOrdered (f : Flow) (c : ℕ) : Type 0 where
  pub in_lanes : c < length f.lanes
  pub growing : IsGrowing node_stamp (lane f c).nodes

pub ordered : {A : Type 0} (d : Inside A) (now : Flow) (c : ℕ) → flow d ≡ now → IsWiredUp d → c < 8 → IsOrdered now c
ordered d now c shows up lt =
    let h = here_unread d now c shows up lt in
    let cells : List (Option ℕ) = d.registers.cells in
    let found : Buffer Renamed = get_or d.renamed c no_buffer in
    let lens = lengths cells d.registers.banks d.renamed up.tied in
    record {
      in_lanes = omega (arith, ap (λ (ls : List Lane). length ls) h.lanes, lens.0, h.in_banks);
      growing = rw h.lane_is (mapped_growing cells found.items h.tied.growing);
    }
  where
    mapped_growing : (cells : List (Option ℕ)) (ns : List Renamed) → IsGrowing stamp_of ns → IsGrowing node_stamp (map (node_of cells) ns)
    mapped_growing cells ns growing i j e lt in_range =
        let len : length (map (node_of cells) ns) ≡ length ns = length-map ns (node_of cells) in
        let at_i : node_stamp (get_or (map (node_of cells) ns) i e) ≡ stamp_of (get_or ns i no_renamed) = ap node_stamp (get_or-map (node_of cells) ns i no_renamed e (omega (arith, len))) in
        let at_j : node_stamp (get_or (map (node_of cells) ns) j e) ≡ stamp_of (get_or ns j no_renamed) = ap node_stamp (get_or-map (node_of cells) ns j no_renamed e (omega (arith, len))) in
        omega (arith, at_i, at_j, growing i j no_renamed lt (omega (arith, len)))

-- of a context the m oldest instructions are left
pub record IsKept (f now : Flow) (c m : ℕ) : Type 0 where
  pub is : now ≡ with_lane f c (kept (lane f c) m)
  pub within : m ≤ length (lane f c).nodes

-- a flow with other contexts
abbrev with_lanes : Flow → List Lane → Flow
with_lanes f ls = record f { lanes = ls }

-- nothing is undone yet
pub kept_all : (f : Flow) (c m : ℕ) → m ≡ length (lane f c).nodes → IsKept f f c m
kept_all f c m all =
    let same : kept (lane f c) m ≡ lane f c = ap (with_nodes (lane f c)) (take_all m (lane f c).nodes (omega (arith, all))) in
    record {
      is = sym (ap (with_lane f c) same ∙ ap (with_lanes f) (set-get_or f.lanes c no_lane));
      within = omega (arith, all);
    }

pub kept_lane : (f now : Flow) (c m : ℕ) → c < length f.lanes → IsKept f now c m → lane now c ≡ kept (lane f c) m
kept_lane f now c m in_lanes left = rw left.is (get_or-set_same f.lanes c (kept (lane f c) m) no_lane in_lanes)

pub kept_length : (f now : Flow) (c m : ℕ) → c < length f.lanes → IsKept f now c m → length (lane now c).nodes ≡ m
kept_length f now c m in_lanes left = ap (λ (l : Lane). length l.nodes) (kept_lane f now c m in_lanes left) ∙ length-take-le m (lane f c).nodes left.within

-- one more is undone
pub kept_less : (f now new : Flow) (c m : ℕ) → c < length f.lanes → IsKept f now c m → 0 < m → new ≡ with_lane now c (without_newest (lane now c)) → IsKept f new c (m - 1)
kept_less f now new c m in_lanes left some new-is =
    let l : Lane = lane f c in
    let lane-is = kept_lane f now c m in_lanes left in
    let len : length (take m l.nodes) ≡ m = length-take-le m l.nodes left.within in
    let less : without_newest (kept l m) ≡ kept l (m - 1) = ap (with_nodes l) (ap (λ j. take (j - 1) (take m l.nodes)) len ∙ take-take (m - 1) m l.nodes (omega arith)) in
    record {
      is = new-is ∙ ap (λ (x : Lane). with_lane now c (without_newest x)) lane-is ∙ ap (with_lane now c) less ∙ ap (λ (g : Flow). with_lane g c (kept l (m - 1))) left.is
          ∙ ap (with_lanes f) (set-set f.lanes c (kept l m) (kept l (m - 1)));
      within = omega (arith, left.within);
    }

-- ---- it doesn't wait

-- none waits of the instructions of a context from a place on
abbrev pub AreIdle : Flow → ℕ → ℕ → Type 0
AreIdle f c n = (i : ℕ) → n ≤ i → i < length (lane f c).nodes → waits_in f c (node_at (lane f c) i).operands.stamp ≡ false

pub idle_newest : (f now : Flow) (c m n : ℕ) → c < length f.lanes → IsKept f now c m → n < m → AreIdle f c n → waits_in now c (node_at (lane now c) (length (lane now c).nodes - 1)).operands.stamp ≡ false
idle_newest f now c m n in_lanes left more idle =
    let waiters : now.waiters ≡ f.waiters = ap (λ (g : Flow). g.waiters) left.is in
    let last : node_at (lane now c) (length (lane now c).nodes - 1) ≡ node_at (lane f c) (m - 1) =
    ap (λ i. node_at (lane now c) (i - 1)) (kept_length f now c m in_lanes left) ∙ ap (λ (l : Lane). node_at l (m - 1)) (kept_lane f now c m in_lanes left)
    ∙ get_or-take m (lane f c).nodes (m - 1) no_node (omega arith) in
    rw last (ap (λ (ws : List Waiter). list_any (is_waiter c (node_at (lane f c) (m - 1)).operands.stamp) ws) waiters ∙ idle (m - 1) (omega arith) (omega (arith, left.within)))

not_waiter : (c k stamp : ℕ) (w : Waiter) → k ≤ stamp → is_waiter_from c k w ≡ false → is_waiter c stamp w ≡ false
not_waiter c k stamp w le e = grind (arith, nat_tests, e)

no_waiter : (c k stamp : ℕ) (ws : List Waiter) → k ≤ stamp → All (λ w. is_waiter_from c k w ≡ false) ws → list_any (is_waiter c stamp) ws ≡ false
no_waiter c k stamp [] le h = refl
no_waiter c k stamp (w ∷ ws) le h =
    let first = not_waiter c k stamp w le (All-head (λ w. is_waiter_from c k w ≡ false) w ws h) in
    rw first (no_waiter c k stamp ws le (All-tail (λ w. is_waiter_from c k w ≡ false) w ws h))

-- ---- those that wait are dropped first

-- what dropping from a stamp on leaves of those that wait
pub record Drops {A : Type 0} (d : Inside A) (c k : ℕ) (q : IssueQueue) : Type 0 where
  pub waiting : All (IsWaiting d.registers.cells d.renamed) q.entries
  pub idle : All (λ w. is_waiter_from c k w ≡ false) (map waiter_of q.entries)

pub drops : {A : Type 0} (d : Inside A) (c k : ℕ) (q : IssueQueue) → IsWiredUp d → q ≡ record d.queue { entries = filter (λ e. not (is_from c k e)) d.queue.entries } → Drops d c k q
drops d c k q up is = rw is (record {
  waiting = waiting_filter d.registers.cells d.renamed (λ e. not (is_from c k e)) d.queue.entries up.waiting;
  idle = rw (waiters_dropped c k d.queue.entries) (none_from c k (map waiter_of d.queue.entries));
})

-- what keeping the oldest asks, once those that wait are dropped
pub record IsDropped (f : Flow) (c n : ℕ) : Type 0 where
  pub within : n ≤ length (lane f c).nodes
  pub idle : AreIdle f c n

pub dropped : {A : Type 0} (d : Inside A) (now : Flow) (c k n : ℕ) (q : IssueQueue) → flow d ≡ now → IsWiredUp d → c < 8 → n ≡ left_in now c k → q ≡ record d.queue { entries = filter (λ e. not (is_from c k e)) d.queue.entries }
    → IsDropped (shown d.registers d.renamed q) c n
dropped d now c k n q shows up lt count is =
    let f : Flow = flow d in
    let grows = (ordered d f c refl up lt).growing in
    let same : n ≡ left_in f c k = count ∙ ap (λ (g : Flow). left_in g c k) (sym shows) in
    record {
      within = omega (arith, same, count_fits node_stamp k (lane f c).nodes);
      idle = λ i ge in_range. no_waiter c k (node_at (lane f c) i).operands.stamp (map waiter_of q.entries) (past_count node_stamp k (lane f c).nodes grows i no_node (omega (arith, ge, same)) in_range) (drops d c k q up is).idle;
    }

-- a flow where others wait
abbrev with_waiters : Flow → List Waiter → Flow
with_waiters f ws = record f { waiters = ws }

pub cut_shows : {A : Type 0} (d : Inside A) (now new : Flow) (c k n : ℕ) (q : IssueQueue) → flow d ≡ now → IsWiredUp d → c < 8 → n ≡ left_in now c k → q ≡ record d.queue { entries = filter (λ e. not (is_from c k e)) d.queue.entries }
    → new ≡ with_lane (shown d.registers d.renamed q) c (kept (lane (shown d.registers d.renamed q) c) n) → new ≡ cut_flow now c k
cut_shows d now new c k n q shows up lt count is new-is =
    let f : Flow = flow d in
    let same : n ≡ left_in f c k = count ∙ ap (λ (g : Flow). left_in g c k) (sym shows) in
    let cut : kept (lane f c) n ≡ cut_from (lane f c) k = ap (λ j. kept (lane f c) j) same ∙ ap (with_nodes (lane f c)) (take_count node_stamp k (lane f c).nodes (ordered d f c refl up lt).growing) in
    let waiters : shown d.registers d.renamed q ≡ with_waiters f (filter (λ w. not (is_waiter_from c k w)) f.waiters) = rw is (ap (with_waiters f) (waiters_dropped c k d.queue.entries)) in
    new-is ∙ ap (λ (g : Flow). with_lane g c (kept (lane g c) n)) waiters
    ∙ ap (λ (l : Lane). with_lane (with_waiters f (filter (λ w. not (is_waiter_from c k w)) f.waiters)) c l) cut ∙ ap (λ (g : Flow). cut_flow g c k) shows
