-- Each call, from the fields before it to the fields after it.
use Rattle.std.proofs.Common.{◌≡◌, ℕ, ◌+◌, ◌-◌, ◌<◌, ◌≤◌, Bool, true, false, List, [], ◌∷◌, ◌++◌, length, get_or, take, drop, map, slice_get, Option, Some, None, refl, sym, ap, subst, ◌∙◌, arith}
use Rattle.std.specs.Prelude.{set, sum_by, slice_index, IsSome, All, ◌==◌}
use Rattle.std.specs.List.{list_any}
use Rattle.std.specs.Option.{option_map}
use Rattle.std.proofs.lemmas.Bool.{eqb-true, eqb-false}
use Rattle.std.proofs.lemmas.List.{length-set, set-get_or, take_more, take_all}
use Rattle.std.proofs.lemmas.Option.{slice_get_within}
use Rattle.std.proofs.lemmas.List.Sums.{get_or-le-sum_by}
use Rattle.rename_file.specs.declared.rename_map.Rename.{Rename}
use Rattle.rename_file.specs.File.{Bank, bank, no_bank, File, uses_in, at, with_cell, committed_one, undone}
use Rattle.rename_file.proofs.Laws.{used_once, committed_in_range, at_self}
use Rattle.reorder_buffer.specs.Growing.{IsGrowing}
use Rattle.reorder_buffer.proofs.Stamps.{growing_front}
use Rattle.circular_buffer.specs.Buffer.{Buffer, buffer, last_item}
use Rattle.issue_queue.specs.Entry.{is_named}
use Rattle.issue_queue.specs.IssueQueue.{IssueQueue, awake}
use Rattle.data_flow.specs.declared.operands.Renamed.{Renamed}
use Rattle.data_flow.specs.declared.operands.Slot.{Slot}
use Rattle.data_flow.specs.declared.data_flow.DataFlow.TheInside.{Inside}
use Rattle.data_flow.specs.Flow.{Node, Lane, Waiter, Flow, lane, no_lane, no_node, node_at, with_lane, with_register, with_result, without_oldest, without_newest, waits_in, is_waiter}
use Rattle.data_flow.specs.Slots.{slot_of}
use Rattle.data_flow.specs.Wired.{node_of, lane_of, lanes_of, flow, waiter_of, IsTied, AreTied, IsWaiting, IsWiredUp, no_buffer, no_renamed}
use Rattle.data_flow.proofs.Ties.{lanes-set, tied-set, get_or-map}
use Rattle.data_flow.proofs.Cells.{same_all_tied, used_is_cell}
use Rattle.data_flow.proofs.LaneEvents.{stamp_of, finished, one_lane, finish_lane, set_lane, result_used, result_above, bank_past, commits, committable, IsCommittable, bank_before, undoes, undoable, IsUndoable}
use Rattle.data_flow.proofs.Places.{Here, here_unread}
use Rattle.data_flow.proofs.Sources.{IsAt, IsReadAt, read_at, is_read}
use Rattle.data_flow.proofs.Waiters.{waiters_awake}
use Rattle.data_flow.proofs.Waits.{all_awake, waiting_finish, waiting_set, waiting_drop, waiting_take, waits_named}

-- what fields show
abbrev pub shown : File → List (Buffer Renamed) → IssueQueue → Flow
shown r ns q = record { lanes = lanes_of r.cells r.banks ns; extra = length r.cells - 256; waiters = map waiter_of q.entries; places = q.capacity }

-- the fields after a call, which show f
pub record Leaves (r : File) (ns : List (Buffer Renamed)) (q : IssueQueue) (f : Flow) : Type 0 where
  pub tied : AreTied r.cells r.banks ns
  pub waiting : All (IsWaiting r.cells ns) q.entries
  pub shows : shown r ns q ≡ f

-- one lane is another, and nothing else
pub one_changes : {A : Type 0} (d : Inside A) (now : Flow) (c : ℕ) (l : Lane) (r : File) (ns : List (Buffer Renamed)) (q : IssueQueue) → flow d ≡ now → lanes_of r.cells r.banks ns ≡ set now.lanes c l → length r.cells ≡ length d.registers.cells
    → map waiter_of q.entries ≡ map waiter_of d.queue.entries → q.capacity ≡ d.queue.capacity → shown r ns q ≡ with_lane now c l
one_changes d now c l r ns q shows lanes len waiters places =
    let extra : length r.cells - 256 ≡ now.extra = ap (λ (n : ℕ). n - 256) len ∙ ap (λ (f : Flow). f.extra) shows in
    let waiters' : map waiter_of q.entries ≡ now.waiters = waiters ∙ ap (λ (f : Flow). f.waiters) shows in
    let places' : q.capacity ≡ now.places = places ∙ ap (λ (f : Flow). f.places) shows in
    cc

-- ---- a result

-- the register of a result is a cell, and no x0
pub record IsResult (cells : List (Option ℕ)) (p : ℕ) : Type 0 where
  pub above : 8 ≤ p
  pub in_range : p < length cells

pub result_register : {A : Type 0} (d : Inside A) (now : Flow) (c k i : ℕ) (found : Buffer Renamed) (s : Slot) → IsWiredUp d → Here d now c k found → IsReadAt found i s → (s.name == 0) ≡ false → IsResult d.registers.cells s.destination
result_register d now c k i found s up h slot has =
    let n : Renamed = slot.renamed in
    let at = slot.at in
    let has' : ((get_or found.items i n).operands.destination == 0) ≡ false = ap (λ (x : Renamed). x.operands.destination == 0) at.is ∙ ap (λ (x : Slot). x.name == 0) slot.read ∙ has in
    let used = result_used d.registers.cells (bank d.registers c) found i n h.tied at.within has' in
    let above = result_above d.registers.cells (bank d.registers c) found i n h.tied (up.file.banks c h.below).renamed at.within has' in
    subst (λ (x : Slot). IsResult d.registers.cells x.destination) slot.read (record { above = rw at.is at above; in_range = used_is_cell d.registers c n.destination up.file h.in_banks (rw at.is at used) })

pub finish_leaves : {A : Type 0} (d : Inside A) (now : Flow) (c k i v : ℕ) (found : Buffer Renamed) (n : Renamed) (r : File) (q : IssueQueue) → flow d ≡ now → IsWiredUp d → Here d now c k found → IsAt found i n → (n.operands.destination == 0) ≡ false
    → r ≡ with_cell d.registers n.destination (Some v) → q ≡ record d.queue { entries = map (awake n.destination) d.queue.entries } → Leaves r d.renamed q (with_lane now c (with_result (lane now c) i v))
finish_leaves d now c k i v found n r q shows up h at has r-is q-is =
    let cells : List (Option ℕ) = d.registers.cells in
    let p : ℕ = n.destination in
    let has' : ((get_or found.items i n).operands.destination == 0) ≡ false = rw at.is has in
    let p-is : (get_or found.items i n).destination ≡ p = ap (λ (x : Renamed). x.destination) at.is in
    let used : 0 < uses_in p (bank d.registers c) = rw at.is at (result_used cells (bank d.registers c) found i n h.tied at.within has') in
    let fits = used_is_cell d.registers c p up.file h.in_banks used in
    let once : sum_by (uses_in p) d.registers.banks ≤ 1 = omega (arith, used_once d.registers p up.file) in
    let here : lane_of (set cells p (Some v)) (bank d.registers c) found ≡ with_result (lane now c) i v =
    finish_lane cells (bank d.registers c) found i p v n h.tied fits at.within has' p-is (omega (arith, get_or-le-sum_by (uses_in p) d.registers.banks c no_bank h.in_banks)) ∙ ap (λ (l : Lane). with_result l i v) (sym h.lane_is) in
    let lanes : lanes_of (set cells p (Some v)) d.registers.banks d.renamed ≡ set now.lanes c (with_result (lane now c) i v) =
    one_lane cells p (Some v) d.registers.banks d.renamed c (with_result (lane now c) i v) up.tied h.in_banks used once (rw h.place at here) ∙ ap (λ (ls : List Lane). set ls c (with_result (lane now c) i v)) (sym h.lanes) in
    rw (r-is, q-is) (record {
      tied = same_all_tied cells p (Some v) d.registers.banks d.renamed up.tied;
      waiting = waiting_finish cells d.renamed p v d.queue.entries fits up.waiting;
      shows = one_changes d now c (with_result (lane now c) i v) (with_cell d.registers p (Some v)) d.renamed (record d.queue { entries = map (awake p) d.queue.entries }) shows lanes (length-set cells p (Some v)) (waiters_awake p d.queue.entries) refl;
    })

-- an instruction without a destination stays as it is
pub finish_none : {A : Type 0} (d : Inside A) (now : Flow) (c k i v : ℕ) (found : Buffer Renamed) (n : Renamed) → Here d now c k found → IsAt found i n → (n.operands.destination == 0) ≡ true → now ≡ with_lane now c (with_result (lane now c) i v)
finish_none d now c k i v found n h at has =
    let node-is : node_at (lane now c) i ≡ node_of d.registers.cells n = rw h.lane_is (get_or-map (node_of d.registers.cells) found.items i n no_node at.within ∙ ap (node_of d.registers.cells) at.is) in
    let stays : finished (node_of d.registers.cells n) v ≡ node_of d.registers.cells n = rw has refl in
    let fin : finished (node_at (lane now c) i) v ≡ node_at (lane now c) i = rw node-is stays in
    let nodes : set (lane now c).nodes i (finished (node_at (lane now c) i) v) ≡ (lane now c).nodes = ap (set (lane now c).nodes i) fin ∙ set-get_or (lane now c).nodes i no_node in
    let same : with_result (lane now c) i v ≡ lane now c = ap (λ (ns : List Node). let l : Lane = record (lane now c) { nodes = ns } in l) nodes in
    let lanes : set now.lanes c (with_result (lane now c) i v) ≡ now.lanes = ap (set now.lanes c) same ∙ set-get_or now.lanes c no_lane in
    ap (λ (ls : List Lane). let f : Flow = record now { lanes = ls } in f) (sym lanes)

-- whether it has a destination
pub has_one : (n : ℕ) → (n == 0) ≡ false → 0 < n
has_one n h = omega (arith, eqb-false n 0 h)

-- a mask tells whether it has one
pub has_masked : (n mask : ℕ) → (n ≡ 0 → mask ≡ 0) → 0 < mask → (n == 0) ≡ false
has_masked n mask none some = by_test (n == 0) refl
  where
    by_test : (b : Bool) → (n == 0) ≡ b → b ≡ false
    by_test false is = refl
    by_test true is = let zero_ = none (eqb-true n 0 is) in absurd (omega (arith, zero_, some))

-- either way, where it is written and woken as a mask tells
finish_renamed : {A : Type 0} (d : Inside A) (now : Flow) (c k i v : ℕ) (found : Buffer Renamed) (n : Renamed) (r : File) (q : IssueQueue) (p mask : ℕ) → flow d ≡ now → IsWiredUp d → Here d now c k found → IsAt found i n
    → (n.operands.destination ≡ 0 → mask ≡ 0) → (0 < n.operands.destination → 0 < mask) → (0 < mask → r ≡ with_cell d.registers n.destination (Some v)) → (0 < mask → p ≡ n.destination) → (mask ≡ 0 → r ≡ d.registers)
    → (mask ≡ 0 → IsSome (get_or d.registers.cells p None)) → q ≡ record d.queue { entries = map (awake p) d.queue.entries } → Leaves r d.renamed q (with_lane now c (with_result (lane now c) i v))
finish_renamed d now c k i v found n r q p mask shows up h at none all written there same valued woken = by_test (n.operands.destination == 0) refl
  where
    by_test : (b : Bool) → (n.operands.destination == 0) ≡ b → Leaves r d.renamed q (with_lane now c (with_result (lane now c) i v))
    by_test false is =
        let some = all (has_one n.operands.destination is) in
        finish_leaves d now c k i v found n r q shows up h at is (written some) (woken ∙ ap (λ w. let e : IssueQueue = record d.queue { entries = map (awake w) d.queue.entries } in e) (there some))
    by_test true is =
        let zero_ = none (eqb-true n.operands.destination 0 is) in
        let queue : q ≡ d.queue = woken ∙ ap (λ es. let e : IssueQueue = record d.queue { entries = es } in e) (all_awake d.registers.cells d.renamed p d.queue.entries (valued zero_) up.waiting) in
        let stays = finish_none d now c k i v found n h at is in
        rw (same zero_, queue) (record { tied = up.tied; waiting = up.waiting; shows = shows ∙ stays })

-- the same of the slot that was read of it
pub finish_masked : {A : Type 0} (d : Inside A) (now : Flow) (c k i v : ℕ) (found : Buffer Renamed) (s : Slot) (r : File) (q : IssueQueue) (p mask : ℕ) → flow d ≡ now → IsWiredUp d → Here d now c k found → IsReadAt found i s
    → (s.name ≡ 0 → mask ≡ 0) → (0 < s.name → 0 < mask) → (0 < mask → r ≡ with_cell d.registers s.destination (Some v)) → (0 < mask → p ≡ s.destination) → (mask ≡ 0 → r ≡ d.registers)
    → (mask ≡ 0 → IsSome (get_or d.registers.cells p None)) → q ≡ record d.queue { entries = map (awake p) d.queue.entries } → Leaves r d.renamed q (with_lane now c (with_result (lane now c) i v))
finish_masked d now c k i v found s r q p mask shows up h slot none all written there same valued woken =
    let back : s ≡ slot_of slot.renamed = sym slot.read in
    finish_renamed d now c k i v found slot.renamed r q p mask shows up h slot.at
    (subst (λ (x : Slot). x.name ≡ 0 → mask ≡ 0) back none) (subst (λ (x : Slot). 0 < x.name → 0 < mask) back all)
    (subst (λ (x : Slot). 0 < mask → r ≡ with_cell d.registers x.destination (Some v)) back written) (subst (λ (x : Slot). 0 < mask → p ≡ x.destination) back there) same valued woken

-- ---- a committed register

pub set_leaves : {A : Type 0} (d : Inside A) (now : Flow) (c x y v : ℕ) (r : File) → flow d ≡ now → IsWiredUp d → c < 8 → y ≡ x → y < 32 → r ≡ with_cell d.registers (slice_index (bank d.registers c).committed y) (Some v)
    → Leaves r d.renamed d.queue (with_lane now c (with_register (lane now c) x v))
set_leaves d now c x y v r shows up lt same below r-is =
    let narrow : x < 32 = omega arith in
    let r-is' : r ≡ with_cell d.registers (slice_index (bank d.registers c).committed x) (Some v) = r-is ∙ ap (λ j. with_cell d.registers (slice_index (bank d.registers c).committed j) (Some v)) same in
    let cells : List (Option ℕ) = d.registers.cells in
    let b : Bank = bank d.registers c in
    let p : ℕ = slice_index b.committed x in
    let found : Buffer Renamed = get_or d.renamed c no_buffer in
    let h = here_unread d now c shows up lt in
    let fits = committed_in_range d.registers c x up.file lt narrow in
    let in_bank : x < length b.committed = omega (arith, h.settled.wide) in
    let used : 0 < uses_in p b = omega (arith, get_or-le-sum_by (at p) b.committed x 0 in_bank, at_self p) in
    let once : sum_by (uses_in p) d.registers.banks ≤ 1 = omega (arith, used_once d.registers p up.file) in
    let l : Lane = with_register (lane now c) x v in
    let here : lane_of (set cells p (Some v)) b found ≡ l =
    set_lane cells b found x p v h.tied fits in_bank refl (omega (arith, get_or-le-sum_by (uses_in p) d.registers.banks c no_bank h.in_banks)) ∙ ap (λ (z : Lane). with_register z x v) (sym h.lane_is) in
    let lanes : lanes_of (set cells p (Some v)) d.registers.banks d.renamed ≡ set now.lanes c l =
    one_lane cells p (Some v) d.registers.banks d.renamed c l up.tied h.in_banks used once here ∙ ap (λ (ls : List Lane). set ls c l) (sym h.lanes) in
    rw r-is' (record {
      tied = same_all_tied cells p (Some v) d.registers.banks d.renamed up.tied;
      waiting = waiting_set cells d.renamed p v d.queue.entries (h.settled.valued x narrow) up.waiting;
      shows = one_changes d now c l (with_cell d.registers p (Some v)) d.renamed d.queue shows lanes (length-set cells p (Some v)) refl refl;
    })

-- ---- one bank and its buffer change, and the values stay

leaves : {A : Type 0} (d : Inside A) (now : Flow) (c k : ℕ) (found left : Buffer Renamed) (r : File) (b : Bank) (l : Lane) → flow d ≡ now → IsWiredUp d → Here d now c k found → r.banks ≡ set d.registers.banks c b → r.cells ≡ d.registers.cells
    → IsTied d.registers.cells b left → lane_of d.registers.cells b left ≡ l → All (IsWaiting d.registers.cells (set d.renamed c left)) d.queue.entries → Leaves r (set d.renamed k left) d.queue (with_lane now c l)
leaves d now c k found left r b l shows up h banks cells tied lane-is waiting =
    let lanes : lanes_of d.registers.cells (set d.registers.banks c b) (set d.renamed c left) ≡ set now.lanes c l =
    lanes-set d.registers.cells d.registers.banks d.renamed c b left ∙ ap (set (lanes_of d.registers.cells d.registers.banks d.renamed) c) lane-is ∙ ap (λ (ls : List Lane). set ls c l) (sym h.lanes) in
    rw h.index (record {
      tied = rw (cells, banks) (tied-set d.registers.cells d.registers.banks d.renamed c b left up.tied tied);
      waiting = rw cells waiting;
      shows = one_changes d now c l r (set d.renamed c left) d.queue shows (rw (cells, banks) lanes) (ap length cells) refl refl;
    })

-- an instruction that doesn't wait
pub idle_at : {A : Type 0} (d : Inside A) (now : Flow) (c k i : ℕ) (found : Buffer Renamed) → flow d ≡ now → Here d now c k found → i < length found.items → waits_in now c (node_at (lane now c) i).operands.stamp ≡ false
    → list_any (is_named c (get_or found.items i no_renamed).operands.stamp) d.queue.entries ≡ false
idle_at d now c k i found shows h lt idle =
    let node-is : node_at (lane now c) i ≡ node_of d.registers.cells (get_or found.items i no_renamed) = rw h.lane_is (get_or-map (node_of d.registers.cells) found.items i no_renamed no_node lt) in
    let waiters : map waiter_of d.queue.entries ≡ now.waiters = ap (λ (f : Flow). f.waiters) shows in
    let stamp : ℕ = (get_or found.items i no_renamed).operands.stamp in
    waits_named c stamp d.queue.entries ∙ ap (λ (ws : List Waiter). list_any (is_waiter c stamp) ws) waiters ∙ ap (λ (n : Node). waits_in now c n.operands.stamp) (sym node-is) ∙ idle

-- ---- the oldest

-- the rename of an instruction with a destination
abbrev pub rename_of : Slot → Rename
rename_of s = record { rd = s.name; register = s.destination }

-- the oldest instruction of a buffer, of which a slot was read, and the others
pub record IsFront (found : Buffer Renamed) (s : Slot) : Type 0 where
  pub renamed : Renamed
  pub is : found ≡ buffer (renamed ∷ drop 1 found.items) found.capacity
  pub some : 0 < length found.items
  pub name : renamed.operands.destination ≡ s.name
  pub rename : rename_of (slot_of renamed) ≡ rename_of s

pub front_is : (found : Buffer Renamed) (s : Slot) → option_map slot_of (slice_get found.items 0) ≡ Some s → IsFront found s
front_is found s e =
    let item = is_read (slice_get found.items 0) s e in
    let split = split_front found.items item.renamed item.there in
    record {
      renamed = item.renamed;
      is = ap (λ (ns : List Renamed). buffer ns found.capacity) split;
      some = slice_get_within found.items 0 item.renamed item.there;
      name = ap (λ (x : Slot). x.name) item.read;
      rename = ap rename_of item.read;
    }
  where
    split_front : (ns : List Renamed) (n : Renamed) → slice_get ns 0 ≡ Some n → ns ≡ n ∷ drop 1 ns
    split_front [] n e = absurd cc
    split_front (x ∷ ns) n e = cc

-- what committing asks
pub commit_asks : {A : Type 0} (d : Inside A) (now : Flow) (c k : ℕ) (found : Buffer Renamed) (s : Slot) → Here d now c k found → IsFront found s → (s.name == 0) ≡ false
    → (0 < (node_at (lane now c) 0).operands.destination → IsSome (node_at (lane now c) 0).result) → IsCommittable d.registers.cells (bank d.registers c) (rename_of s)
commit_asks d now c k found s h front named done =
    let cells : List (Option ℕ) = d.registers.cells in
    let n : Renamed = front.renamed in
    let has : (n.operands.destination == 0) ≡ false = ap (λ x. x == 0) front.name ∙ named in
    let tied : IsTied cells (bank d.registers c) (buffer (n ∷ drop 1 found.items) found.capacity) = subst (IsTied cells (bank d.registers c)) front.is h.tied in
    let lane-is : lane now c ≡ lane_of cells (bank d.registers c) (buffer (n ∷ drop 1 found.items) found.capacity) = h.lane_is ∙ ap (lane_of cells (bank d.registers c)) front.is in
    let node-is : node_at (lane now c) 0 ≡ node_of cells n = rw lane-is refl in
    let some : 0 < n.operands.destination = has_one n.operands.destination has in
    let done' : IsSome (node_of cells n).result = subst (λ (x : Node). 0 < x.operands.destination → IsSome x.result) node-is done some in
    subst (IsCommittable cells (bank d.registers c)) front.rename (committable cells (bank d.registers c) n (drop 1 found.items) found.capacity tied has done')

pub commit_leaves : {A : Type 0} (d : Inside A) (now : Flow) (c k : ℕ) (found left : Buffer Renamed) (s : Slot) (r : File) → flow d ≡ now → IsWiredUp d → Here d now c k found → IsFront found s
    → waits_in now c (node_at (lane now c) 0).operands.stamp ≡ false → left ≡ buffer (drop 1 found.items) found.capacity
    → r.banks ≡ set d.registers.banks c (bank_past (bank d.registers c) (s.name == 0)) → r.cells ≡ d.registers.cells → Leaves r (set d.renamed k left) d.queue (with_lane now c (without_oldest (lane now c)))
commit_leaves d now c k found left s r shows up h front idle left-is banks cells-are =
    let cells : List (Option ℕ) = d.registers.cells in
    let b : Bank = bank d.registers c in
    let n : Renamed = front.renamed in
    let rest : List Renamed = drop 1 found.items in
    let tied : IsTied cells b (buffer (n ∷ rest) found.capacity) = subst (IsTied cells b) front.is h.tied in
    let lane-is : lane now c ≡ lane_of cells b (buffer (n ∷ rest) found.capacity) = h.lane_is ∙ ap (lane_of cells b) front.is in
    let step = commits cells b n rest found.capacity tied in
    let waits = waiting_drop cells d.renamed c d.queue.entries h.in_buffers (rw h.place at (idle_at d now c k 0 found shows h front.some idle)) up.waiting in
    let banks' = banks ∙ ap (λ x. set d.registers.banks c (bank_past b (x == 0))) (sym front.name) in
    leaves d now c k found left r (bank_past b (n.operands.destination == 0)) (without_oldest (lane now c)) shows up h banks' cells-are (rw left-is step.tied)
    (rw left-is (step.lane ∙ ap without_oldest (sym lane-is))) (rw (left-is, h.place) waits)

-- without a destination no bank changes
pub no_commit : {A : Type 0} (d : Inside A) (c : ℕ) (none : Bool) → none ≡ true → d.registers.banks ≡ set d.registers.banks c (bank_past (bank d.registers c) none)
no_commit d c true e = sym (set-get_or d.registers.banks c no_bank)
no_commit d c false e = absurd cc

pub one_commit : {A : Type 0} (d : Inside A) (c : ℕ) (none : Bool) (r : File) → none ≡ false → r ≡ committed_one d.registers c → r.banks ≡ set d.registers.banks c (bank_past (bank d.registers c) none)
one_commit d c true r e r-is = absurd cc
one_commit d c false r e r-is = ap (λ (f : File). f.banks) r-is

-- ---- the youngest

-- the youngest instruction of a buffer, of which a slot was read, and the others
pub record IsBack (found : Buffer Renamed) (s : Slot) : Type 0 where
  pub renamed : Renamed
  pub is : found ≡ buffer (take (length found.items - 1) found.items ++ renamed ∷ []) found.capacity
  pub some : 0 < length found.items
  pub at : IsAt found (length found.items - 1) renamed
  pub name : renamed.operands.destination ≡ s.name
  pub rename : rename_of (slot_of renamed) ≡ rename_of s

pub back_is : (found : Buffer Renamed) (s : Slot) → option_map slot_of (last_item found.items) ≡ Some s → IsBack found s
back_is found s e =
    let xs : List Renamed = found.items in
    let k : ℕ = length xs - 1 in
    let slot = read_at found k s e in
    let at = slot.at in
    let one : k + 1 ≡ length xs = omega (arith, at.within) in
    let whole : take (k + 1) xs ≡ xs = take_all (k + 1) xs (omega arith) in
    let split : xs ≡ take k xs ++ slot.renamed ∷ [] = sym whole ∙ take_more xs k slot.renamed at.within ∙ ap (λ (x : Renamed). take k xs ++ x ∷ []) at.is in
    record {
      renamed = slot.renamed;
      is = ap (λ (ns : List Renamed). buffer ns found.capacity) split;
      some = omega (arith, at.within);
      at = at;
      name = ap (λ (x : Slot). x.name) slot.read;
      rename = ap rename_of slot.read;
    }

pub undo_asks : {A : Type 0} (d : Inside A) (now : Flow) (c k : ℕ) (found : Buffer Renamed) (s : Slot) → Here d now c k found → IsBack found s → (s.name == 0) ≡ false → IsUndoable (bank d.registers c) (rename_of s)
undo_asks d now c k found s h back named =
    let has : (back.renamed.operands.destination == 0) ≡ false = ap (λ x. x == 0) back.name ∙ named in
    let asked = undoable d.registers.cells (bank d.registers c) back.renamed (take (length found.items - 1) found.items) found.capacity (subst (IsTied d.registers.cells (bank d.registers c)) back.is h.tied) has in
    subst (IsUndoable (bank d.registers c)) back.rename asked

pub undo_leaves : {A : Type 0} (d : Inside A) (now : Flow) (c k : ℕ) (found left : Buffer Renamed) (s : Slot) (r : File) → flow d ≡ now → IsWiredUp d → Here d now c k found → IsBack found s
    → waits_in now c (node_at (lane now c) (length (lane now c).nodes - 1)).operands.stamp ≡ false → left ≡ buffer (take (length found.items - 1) found.items) found.capacity
    → r.banks ≡ set d.registers.banks c (bank_before (bank d.registers c) (s.name == 0)) → r.cells ≡ d.registers.cells → Leaves r (set d.renamed k left) d.queue (with_lane now c (without_newest (lane now c)))
undo_leaves d now c k found left s r shows up h back idle left-is banks cells-are =
    let cells : List (Option ℕ) = d.registers.cells in
    let b : Bank = bank d.registers c in
    let n : Renamed = back.renamed in
    let front : List Renamed = take (length found.items - 1) found.items in
    let tied : IsTied cells b (buffer (front ++ n ∷ []) found.capacity) = subst (IsTied cells b) back.is h.tied in
    let lane-is : lane now c ≡ lane_of cells b (buffer (front ++ n ∷ []) found.capacity) = h.lane_is ∙ ap (lane_of cells b) back.is in
    let growing : IsGrowing stamp_of front = growing_front stamp_of found.items (length found.items - 1) h.tied.growing in
    let step = undoes cells b n front found.capacity tied growing in
    let idle' : waits_in now c (node_at (lane now c) (length found.items - 1)).operands.stamp ≡ false = rw h.count at idle in
    let waits = waiting_take cells d.renamed c d.queue.entries h.in_buffers (rw h.place at (idle_at d now c k (length found.items - 1) found shows h back.at.within idle')) up.waiting in
    let banks' = banks ∙ ap (λ x. set d.registers.banks c (bank_before b (x == 0))) (sym back.name) in
    leaves d now c k found left r (bank_before b (n.operands.destination == 0)) (without_newest (lane now c)) shows up h banks' cells-are (rw left-is step.tied)
    (rw left-is (step.lane ∙ ap without_newest (sym lane-is))) (rw (left-is, h.place) waits)

pub no_undo : {A : Type 0} (d : Inside A) (c : ℕ) (none : Bool) → none ≡ true → d.registers.banks ≡ set d.registers.banks c (bank_before (bank d.registers c) none)
no_undo d c true e = sym (set-get_or d.registers.banks c no_bank)
no_undo d c false e = absurd cc

pub one_undo : {A : Type 0} (d : Inside A) (c : ℕ) (none : Bool) (r : File) → none ≡ false → r ≡ undone d.registers c → r.banks ≡ set d.registers.banks c (bank_before (bank d.registers c) none)
one_undo d c true r e r-is = absurd cc
one_undo d c false r e r-is = ap (λ (f : File). f.banks) r-is
