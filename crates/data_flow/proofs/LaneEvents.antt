-- What each call does to a bank and its buffer, in the terms of lanes.
use Rattle.std.proofs.Common.{◌≡◌, ℕ, zero, suc, ◌+◌, ◌-◌, ◌<◌, ◌≤◌, Bool, true, false, List, [], ◌∷◌, ◌++◌, length, get_or, take, drop, map, Option, Some, None, refl, sym, ap, subst, ◌∙◌, arith, length-append}
use Rattle.std.specs.Prelude.{set, sum_by, slice_index, unwrap_or, IsSome, All, ◌==◌, if◌then◌else◌}
use Rattle.std.proofs.lemmas.Bool.Decides.{nat_tests}
use Rattle.std.proofs.lemmas.List.{map-set, map-append, get_or-set_same, get_or_push, append-nil, take_at}
use Rattle.std.proofs.lemmas.List.Elements.{All-head, All-tail}
use Rattle.std.proofs.lemmas.List.Sums.{sum_by-cons, get_or-le-sum_by}
use Rattle.rename_file.specs.declared.rename_map.Rename.{Rename}
use Rattle.rename_file.specs.File.{Bank, no_bank, no_rename, IsRename, map_past, uses_in, at, renamed_bank, committed_bank, undone_bank, first, last}
use Rattle.rename_file.proofs.Laws.{at_self}
use Rattle.reorder_buffer.specs.Growing.{IsGrowing}
use Rattle.circular_buffer.specs.Buffer.{Buffer, buffer}
use Rattle.hart_step.specs.State.{written}
use Rattle.data_flow.specs.declared.operands.Renamed.{Renamed}
use Rattle.data_flow.specs.Flow.{Node, Lane, no_node, result_for, with_register, with_node, with_result, without_oldest, without_newest}
use Rattle.data_flow.specs.Banks.{bank_with}
use Rattle.data_flow.specs.Wired.{cell_of, value_of, node_of, lane_of, lanes_of, renames_of, IsWired, IsTied, AreTied, no_buffer}
use Rattle.data_flow.proofs.Ties.{IsWiredOver}
use Rattle.data_flow.proofs.Cells.{at_rename, renames_with, node_with, same_cell, same_values, same_nodes, same_lane, same_lanes, named_once}

-- the stamp of an instruction
abbrev pub stamp_of : Renamed → ℕ
stamp_of n = n.operands.stamp

-- ---- one register gets a value

-- where a register is used by one context, the others stay as they are
pub one_lane : (cells : List (Option ℕ)) (p : ℕ) (x : Option ℕ) (bs : List Bank) (ns : List (Buffer Renamed)) (c : ℕ) (l : Lane) → AreTied cells bs ns → c < length bs → 0 < uses_in p (get_or bs c no_bank) → sum_by (uses_in p) bs ≤ 1
    → lane_of (set cells p x) (get_or bs c no_bank) (get_or ns c no_buffer) ≡ l → lanes_of (set cells p x) bs ns ≡ set (lanes_of cells bs ns) c l
one_lane cells p x [] ns c l t lt used once here = absurd (omega arith)
one_lane cells p x (b ∷ bs) [] c l t lt used once here = absurd t
one_lane cells p x (b ∷ bs) (n ∷ ns) zero l t lt used once here =
    let rest = same_lanes cells p x bs ns t.1 (omega (arith, sum_by-cons (uses_in p) b bs)) in
    cc
one_lane cells p x (b ∷ bs) (n ∷ ns) (suc c) l t lt used once here =
    let rest = one_lane cells p x bs ns c l t.1 (omega arith) used (omega (arith, sum_by-cons (uses_in p) b bs)) here in
    let first = same_lane cells p x b n t.0 (omega (arith, sum_by-cons (uses_in p) b bs, get_or-le-sum_by (uses_in p) bs c no_bank (omega arith))) in
    cc

other_result : (cells : List (Option ℕ)) (p : ℕ) (x : Option ℕ) (none : Bool) (rd q : ℕ) (ns : List Rename) → sum_by (at_rename p) (renames_with none rd q ns) ≤ 1 → 0 < sum_by (at_rename p) ns
    → ((if none then None else cell_of (set cells p x) q) ≡ (if none then None else cell_of cells q)) × (sum_by (at_rename p) ns ≤ 1)
other_result cells p x true rd q ns e h = (refl, e)
other_result cells p x false rd q ns e h =
    let n : Rename = record { rd = rd; register = q } in
    (same_cell cells p x q (omega (arith, sum_by-cons (at_rename p) n ns)), omega (arith, sum_by-cons (at_rename p) n ns))

rest_zero : (p rd q : ℕ) (none : Bool) (ns : List Rename) → none ≡ false → q ≡ p → sum_by (at_rename p) (renames_with none rd q ns) ≤ 1 → sum_by (at_rename p) ns ≡ 0
rest_zero p rd q true ns has q-is e = absurd cc
rest_zero p rd q false ns has q-is e =
    let n : Rename = record { rd = rd; register = q } in
    let one : at p q ≡ 1 = grind (arith, nat_tests) in
    omega (arith, sum_by-cons (at_rename p) n ns, one)

-- an instruction with its result
abbrev pub finished : Node → ℕ → Node
finished n v = record n { result = result_for n.operands v }

finish_nodes : (cells : List (Option ℕ)) (p v : ℕ) (ns : List Renamed) (i : ℕ) (d : Renamed) → p < length cells → i < length ns → ((get_or ns i d).operands.destination == 0) ≡ false → (get_or ns i d).destination ≡ p
    → sum_by (at_rename p) (renames_of ns) ≤ 1 → map (node_of (set cells p (Some v))) ns ≡ set (map (node_of cells) ns) i (finished (get_or (map (node_of cells) ns) i no_node) v)
finish_nodes cells p v [] i d fits lt has p-is e = absurd (omega arith)
finish_nodes cells p v (n ∷ ns) zero d fits lt has p-is e =
    let here : cell_of (set cells p (Some v)) n.destination ≡ Some v = rw p-is (get_or-set_same cells p (Some v) None fits) in
    let first : node_of (set cells p (Some v)) n ≡ finished (node_of cells n) v = ap (λ (r : Option ℕ). node_with n (if n.operands.destination == 0 then None else r)) here in
    let rest = same_nodes cells p (Some v) ns (rest_zero p n.operands.destination n.destination (n.operands.destination == 0) (renames_of ns) has p-is e) in
    cc
finish_nodes cells p v (n ∷ ns) (suc i) d fits lt has p-is e =
    let there : 0 < sum_by (at_rename p) (renames_of ns) = subst (λ q. 0 < sum_by (at_rename q) (renames_of ns)) p-is (named_once ns i d (omega arith) has) in
    let h = other_result cells p (Some v) (n.operands.destination == 0) n.operands.destination n.destination (renames_of ns) e there in
    let first : node_of (set cells p (Some v)) n ≡ node_of cells n = ap (node_with n) h.0 in
    let rest = finish_nodes cells p v ns i d fits (omega arith) has p-is h.1 in
    cc

-- a result's register is used
pub result_used : (cells : List (Option ℕ)) (b : Bank) (ns : Buffer Renamed) (i : ℕ) (d : Renamed) → IsTied cells b ns → i < length ns.items → ((get_or ns.items i d).operands.destination == 0) ≡ false → 0 < uses_in (get_or ns.items i d).destination b
result_used cells b ns i d t lt has =
    let p : ℕ = (get_or ns.items i d).destination in
    let once : 0 < sum_by (at_rename p) b.renames = rw t.renames (named_once ns.items i d lt has) in
    omega arith

-- a result
pub finish_lane : (cells : List (Option ℕ)) (b : Bank) (ns : Buffer Renamed) (i p v : ℕ) (d : Renamed) → IsTied cells b ns → p < length cells → i < length ns.items → ((get_or ns.items i d).operands.destination == 0) ≡ false
    → (get_or ns.items i d).destination ≡ p → uses_in p b ≤ 1 → lane_of (set cells p (Some v)) b ns ≡ with_result (lane_of cells b ns) i v
finish_lane cells b ns i p v d t fits lt has p-is once =
    let there : 0 < sum_by (at_rename p) (renames_of ns.items) = subst (λ q. 0 < sum_by (at_rename q) (renames_of ns.items)) p-is (named_once ns.items i d lt has) in
    let named : sum_by (at_rename p) b.renames ≡ sum_by (at_rename p) (renames_of ns.items) = ap (sum_by (at_rename p)) t.renames in
    rw (same_values cells p (Some v) b.committed (omega arith), finish_nodes cells p v ns.items i d fits lt has p-is (omega arith)) refl

set_values : (cells : List (Option ℕ)) (p v : ℕ) (qs : List ℕ) (r : ℕ) → p < length cells → r < length qs → slice_index qs r ≡ p → sum_by (at p) qs ≤ 1 → map (value_of (set cells p (Some v))) qs ≡ set (map (value_of cells) qs) r v
set_values cells p v [] r fits lt p-is once = absurd (omega arith)
set_values cells p v (q ∷ qs) zero fits lt p-is once =
    let here : value_of (set cells p (Some v)) q ≡ v = rw p-is (ap (λ o. unwrap_or o 0) (get_or-set_same cells p (Some v) None fits)) in
    let rest = same_values cells p (Some v) qs (omega (arith, sum_by-cons (at p) q qs, ap (at p) p-is, at_self p)) in
    cc
set_values cells p v (q ∷ qs) (suc r) fits lt p-is once =
    let used : 0 < sum_by (at p) qs = omega (arith, get_or-le-sum_by (at p) qs r 0 (omega arith), ap (at p) p-is, at_self p) in
    let first = same_cell cells p (Some v) q (omega (arith, sum_by-cons (at p) q qs)) in
    let rest = set_values cells p v qs r fits (omega arith) p-is (omega (arith, sum_by-cons (at p) q qs)) in
    cc

-- a committed value
pub set_lane : (cells : List (Option ℕ)) (b : Bank) (ns : Buffer Renamed) (r p v : ℕ) → IsTied cells b ns → p < length cells → r < length b.committed → slice_index b.committed r ≡ p → uses_in p b ≤ 1
    → lane_of (set cells p (Some v)) b ns ≡ with_register (lane_of cells b ns) r v
set_lane cells b ns r p v t fits lt p-is once =
    let used : 0 < sum_by (at p) b.committed = omega (arith, get_or-le-sum_by (at p) b.committed r 0 lt, ap (at p) p-is, at_self p) in
    let none : sum_by (at_rename p) b.renames ≡ 0 = omega arith in
    rw (set_values cells p v b.committed r fits lt p-is (omega arith), same_nodes cells p (Some v) ns.items (rw t.renames at none)) refl

-- a result's register isn't an x0
named_above : (ns : List Renamed) (i : ℕ) (d : Renamed) → All IsRename (renames_of ns) → i < length ns → ((get_or ns i d).operands.destination == 0) ≡ false → 8 ≤ (get_or ns i d).destination
named_above [] i d h lt has = absurd (omega arith)
named_above (n ∷ ns) zero d h lt has = at_head (n.operands.destination == 0) has h
  where
    at_head : (none : Bool) → none ≡ false → All IsRename (renames_with none n.operands.destination n.destination (renames_of ns)) → 8 ≤ n.destination
    at_head true e k = absurd cc
    at_head false e k = (All-head IsRename (record { rd = n.operands.destination; register = n.destination }) (renames_of ns) k).register
named_above (n ∷ ns) (suc i) d h lt has = named_above ns i d (rest (n.operands.destination == 0) h) (omega arith) has
  where
    rest : (none : Bool) → All IsRename (renames_with none n.operands.destination n.destination (renames_of ns)) → All IsRename (renames_of ns)
    rest true k = k
    rest false k = All-tail IsRename (record { rd = n.operands.destination; register = n.destination }) (renames_of ns) k

pub result_above : (cells : List (Option ℕ)) (b : Bank) (ns : Buffer Renamed) (i : ℕ) (d : Renamed) → IsTied cells b ns → All IsRename b.renames → i < length ns.items → ((get_or ns.items i d).operands.destination == 0) ≡ false
    → 8 ≤ (get_or ns.items i d).destination
result_above cells b ns i d t h lt has = named_above ns.items i d (rw t.renames at h) lt has

-- ---- one more instruction

renames_cons : (none : Bool) (rd p : ℕ) (ns ms : List Rename) → renames_with none rd p (ns ++ ms) ≡ renames_with none rd p ns ++ ms
renames_cons true rd p ns ms = refl
renames_cons false rd p ns ms = refl

pub renames_push : (ns : List Renamed) (n : Renamed) → renames_of (ns ++ n ∷ []) ≡ renames_of ns ++ renames_with (n.operands.destination == 0) n.operands.destination n.destination []
renames_push [] n = refl
renames_push (x ∷ ns) n =
    ap (renames_with (x.operands.destination == 0) x.operands.destination x.destination) (renames_push ns n)
    ∙ renames_cons (x.operands.destination == 0) x.operands.destination x.destination (renames_of ns) (renames_with (n.operands.destination == 0) n.operands.destination n.destination [])

map_past_cons : (m : List ℕ) (none : Bool) (rd p : ℕ) (ns : List Rename) → map_past m (renames_with none rd p ns) ≡ map_past (if none then m else set m rd p) ns
map_past_cons m true rd p ns = refl
map_past_cons m false rd p ns = refl

wired_push : (count : ℕ) (m : List ℕ) (ns : List Renamed) (n : Renamed) → IsWired count m ns → IsWiredOver (map_past m (renames_of ns)) n → IsWired count m (ns ++ n ∷ [])
wired_push count m [] n t w = (w.first, w.second, w.first_narrow, w.second_narrow, w.destination_narrow, tt)
wired_push count m (x ∷ ns) n t w = (
  t.0,
  t.1,
  t.2,
  t.3,
  t.4,
  wired_push count (written m x.operands.destination x.destination) ns n t.5
      (subst (λ q. IsWiredOver q n) (map_past_cons m (x.operands.destination == 0) x.operands.destination x.destination (renames_of ns)) w),
)

-- the parts of a bank with one more rename, if any
with_parts : (b : Bank) (none : Bool) (rd p : ℕ) → ((if none then b else renamed_bank b rd p).committed ≡ b.committed) × ((if none then b else renamed_bank b rd p).renames ≡ b.renames ++ renames_with none rd p [])
with_parts b true rd p = (refl, sym (append-nil b.renames))
with_parts b false rd p = (refl, refl)

pub push_tied : (cells : List (Option ℕ)) (b : Bank) (ns : Buffer Renamed) (n : Renamed) → IsTied cells b ns → IsWiredOver (map_past b.committed b.renames) n → IsGrowing stamp_of (ns.items ++ n ∷ [])
    → IsTied cells (bank_with b n.operands.destination n.destination) (buffer (ns.items ++ n ∷ []) ns.capacity)
push_tied cells b ns n t w growing =
    let parts = with_parts b (n.operands.destination == 0) n.operands.destination n.destination in
    record {
      renames = parts.1 ∙ ap (λ rs. rs ++ renames_with (n.operands.destination == 0) n.operands.destination n.destination []) t.renames ∙ sym (renames_push ns.items n);
      wired = rw parts.0 (wired_push (length cells) b.committed ns.items n t.wired (subst (λ rs. IsWiredOver (map_past b.committed rs) n) t.renames w));
      growing = growing;
    }

pub push_lane : (cells : List (Option ℕ)) (b : Bank) (ns : Buffer Renamed) (n : Renamed) → (if n.operands.destination == 0 then None else cell_of cells n.destination) ≡ None
    → lane_of cells (bank_with b n.operands.destination n.destination) (buffer (ns.items ++ n ∷ []) ns.capacity) ≡ with_node (lane_of cells b ns) n.operands
push_lane cells b ns n e =
    let parts = with_parts b (n.operands.destination == 0) n.operands.destination n.destination in
    rw (parts.0, map-append (node_of cells) ns.items (n ∷ []), e) refl

-- ---- the oldest

-- a bank whose oldest rename is committed, if the instruction has one
abbrev pub bank_past : Bank → Bool → Bank
bank_past b none = if none then b else committed_bank b

has_value : (o : Option ℕ) → IsSome o → o ≡ Some (unwrap_or o 0)
has_value None h = absurd cc
has_value (Some v) h = refl

-- what committing the oldest instruction leaves
pub record Commits (cells : List (Option ℕ)) (b : Bank) (n : Renamed) (rest : List Renamed) (capacity : ℕ) : Type 0 where
  pub tied : IsTied cells (bank_past b (n.operands.destination == 0)) (buffer rest capacity)
  pub lane : lane_of cells (bank_past b (n.operands.destination == 0)) (buffer rest capacity) ≡ without_oldest (lane_of cells b (buffer (n ∷ rest) capacity))

first_is : (b : Bank) (rd p : ℕ) (ns : List Rename) → b.renames ≡ record { rd = rd; register = p } ∷ ns → first b ≡ record { rd = rd; register = p }
first_is b rd p ns e = ap (λ (rs : List Rename). get_or rs 0 no_rename) e

committed_past : (b : Bank) (none : Bool) (rd p : ℕ) (ns : List Rename) → b.renames ≡ renames_with none rd p ns
    → ((bank_past b none).committed ≡ (if none then b.committed else set b.committed rd p)) × ((bank_past b none).renames ≡ ns)
committed_past b true rd p ns e = (refl, e)
committed_past b false rd p ns e = (let is = first_is b rd p ns e in rw is refl, ap (drop 1) e)

values_past : (cells : List (Option ℕ)) (m : List ℕ) (none : Bool) (rd p : ℕ)
    → map (value_of cells) (if none then m else set m rd p) ≡ (if none then map (value_of cells) m else set (map (value_of cells) m) rd (unwrap_or (if none then None else cell_of cells p) 0))
values_past cells m true rd p = refl
values_past cells m false rd p = map-set (value_of cells) m rd p

pub commits : (cells : List (Option ℕ)) (b : Bank) (n : Renamed) (rest : List Renamed) (capacity : ℕ) → IsTied cells b (buffer (n ∷ rest) capacity) → Commits cells b n rest capacity
commits cells b n rest capacity t =
    let past = committed_past b (n.operands.destination == 0) n.operands.destination n.destination (renames_of rest) t.renames in
    record {
      tied = record { renames = past.1; wired = rw past.0 t.wired.5; growing = λ i j d lt in_range. t.growing (suc i) (suc j) d (omega arith) (omega arith) };
      lane = rw (past.0, values_past cells b.committed (n.operands.destination == 0) n.operands.destination n.destination) refl;
    }

-- what committing asks of a rename: it is the oldest, and has its value
pub record IsCommittable (cells : List (Option ℕ)) (b : Bank) (r : Rename) : Type 0 where
  pub some : 0 < length b.renames
  pub oldest : r ≡ first b
  pub ready : IsSome (cell_of cells (first b).register)

pub committable : (cells : List (Option ℕ)) (b : Bank) (n : Renamed) (rest : List Renamed) (capacity : ℕ) → IsTied cells b (buffer (n ∷ rest) capacity) → (n.operands.destination == 0) ≡ false
    → IsSome (node_of cells n).result → IsCommittable cells b (record { rd = n.operands.destination; register = n.destination })
committable cells b n rest capacity t has done =
    let e : b.renames ≡ record { rd = n.operands.destination; register = n.destination } ∷ renames_of rest = t.renames ∙ ap (λ none. renames_with none n.operands.destination n.destination (renames_of rest)) has in
    let is = first_is b n.operands.destination n.destination (renames_of rest) e in
    let done' : IsSome (cell_of cells n.destination) = subst (λ none. IsSome (if none then None else cell_of cells n.destination)) has done in
    record { some = omega (arith, ap length e); oldest = sym is; ready = rw is done' }

-- ---- the youngest

-- a bank whose newest rename is undone, if the instruction has one
abbrev pub bank_before : Bank → Bool → Bank
bank_before b none = if none then b else undone_bank b

wired_take : (count : ℕ) (m : List ℕ) (ns : List Renamed) (n : Renamed) → IsWired count m (ns ++ n ∷ []) → IsWired count m ns
wired_take count m [] n t = tt
wired_take count m (x ∷ ns) n t = (t.0, t.1, t.2, t.3, t.4, wired_take count (written m x.operands.destination x.destination) ns n t.5)

renames_before : (b : Bank) (none : Bool) (rd p : ℕ) (ns : List Rename) → b.renames ≡ ns ++ renames_with none rd p [] → ((bank_before b none).renames ≡ ns) × ((bank_before b none).committed ≡ b.committed)
renames_before b true rd p ns e = (e ∙ append-nil ns, refl)
renames_before b false rd p ns e =
    let n : Rename = record { rd = rd; register = p } in
    let len : length b.renames - 1 ≡ length ns = omega (arith, ap length e, length-append ns (n ∷ [])) in
    (ap (λ k. take k b.renames) len ∙ ap (take (length ns)) e ∙ take_at ns (n ∷ []) (length ns) refl, refl)

-- what forgetting the youngest instruction leaves
pub record Undoes (cells : List (Option ℕ)) (b : Bank) (n : Renamed) (front : List Renamed) (capacity : ℕ) : Type 0 where
  pub tied : IsTied cells (bank_before b (n.operands.destination == 0)) (buffer front capacity)
  pub lane : lane_of cells (bank_before b (n.operands.destination == 0)) (buffer front capacity) ≡ without_newest (lane_of cells b (buffer (front ++ n ∷ []) capacity))

pub undoes : (cells : List (Option ℕ)) (b : Bank) (n : Renamed) (front : List Renamed) (capacity : ℕ) → IsTied cells b (buffer (front ++ n ∷ []) capacity) → IsGrowing stamp_of front → Undoes cells b n front capacity
undoes cells b n front capacity t growing =
    let before = renames_before b (n.operands.destination == 0) n.operands.destination n.destination (renames_of front) (t.renames ∙ renames_push front n) in
    let nodes : map (node_of cells) (front ++ n ∷ []) ≡ map (node_of cells) front ++ node_of cells n ∷ [] = map-append (node_of cells) front (n ∷ []) in
    let len : length (map (node_of cells) front ++ node_of cells n ∷ []) - 1 ≡ length (map (node_of cells) front) = omega (arith, length-append (map (node_of cells) front) (node_of cells n ∷ [])) in
    record {
      tied = record { renames = before.0; wired = rw before.1 (wired_take (length cells) b.committed front n t.wired); growing = growing };
      lane = rw (before.1, nodes, len, take_at (map (node_of cells) front) (node_of cells n ∷ []) (length (map (node_of cells) front)) refl) refl;
    }

-- what undoing asks of a rename: it is the newest
pub record IsUndoable (b : Bank) (r : Rename) : Type 0 where
  pub some : 0 < length b.renames
  pub newest : r ≡ last b

pub undoable : (cells : List (Option ℕ)) (b : Bank) (n : Renamed) (front : List Renamed) (capacity : ℕ) → IsTied cells b (buffer (front ++ n ∷ []) capacity) → (n.operands.destination == 0) ≡ false
    → IsUndoable b (record { rd = n.operands.destination; register = n.destination })
undoable cells b n front capacity t has =
    let r : Rename = record { rd = n.operands.destination; register = n.destination } in
    let e : b.renames ≡ renames_of front ++ r ∷ [] = t.renames ∙ renames_push front n ∙ ap (λ none. renames_of front ++ renames_with none n.operands.destination n.destination []) has in
    let len : length b.renames ≡ length (renames_of front) + 1 = ap length e ∙ length-append (renames_of front) (r ∷ []) in
    record {
      some = omega (arith, len);
      newest = sym (ap (λ (rs : List Rename). get_or rs (length b.renames - 1) no_rename) e ∙ get_or_push (renames_of front) r no_rename (length b.renames - 1) (omega (arith, len)));
    }
