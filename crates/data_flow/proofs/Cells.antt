-- A write to a physical register changes the context that uses it, and no other.
use Rattle.std.proofs.Common.{◌≡◌, ◌≢◌, ℕ, zero, suc, ◌+◌, ◌<◌, ◌≤◌, Bool, true, false, List, [], ◌∷◌, length, get_or, take, map, Option, None, refl, sym, ap, subst, arith, inl, inr}
use Rattle.std.specs.Prelude.{set, sum_by, slice_index, ◌==◌, if◌then◌else◌}
use Rattle.std.proofs.lemmas.Bool.{cases_lt}
use Rattle.std.proofs.lemmas.Bool.Decides.{nat_tests}
use Rattle.std.proofs.lemmas.List.{length-set, set_past, get_or-set_other}
use Rattle.std.proofs.lemmas.List.Sums.{sum_by-cons, sum_by-set, get_or-le-sum_by}
use Rattle.rename_file.specs.declared.rename_map.Rename.{Rename}
use Rattle.rename_file.specs.File.{Bank, bank, no_bank, File, IsFile, IsNewestFree, uses_in, at}
use Rattle.rename_file.proofs.Laws.{at_self, used_in_range, used_once, newest_use}
use Rattle.circular_buffer.specs.Buffer.{Buffer}
use Rattle.hart_step.specs.State.{written}
use Rattle.data_flow.specs.declared.operands.Renamed.{Renamed}
use Rattle.data_flow.specs.Flow.{Node}
use Rattle.data_flow.specs.Wired.{cell_of, value_of, node_of, lane_of, lanes_of, renames_of, IsTied, AreTied}
use Rattle.data_flow.proofs.Ties.{map_after, length-written, wired_at}

-- 1 where a rename is to p
abbrev pub at_rename : ℕ → Rename → ℕ
at_rename p n = at p n.register

-- renames, with one before them unless there is none
abbrev pub renames_with : Bool → ℕ → ℕ → List Rename → List Rename
renames_with none rd p ns = if none then ns else record { rd = rd; register = p } ∷ ns

-- ---- the registers that instructions read are used

written_used : (p : ℕ) (m : List ℕ) (rd q : ℕ) (ns : List Rename) (none : Bool) → sum_by (at p) (if none then m else set m rd q) + sum_by (at_rename p) ns ≤ sum_by (at p) m + sum_by (at_rename p) (renames_with none rd q ns)
written_used p m rd q ns true = omega arith
written_used p m rd q ns false =
    let n : Rename = record { rd = rd; register = q } in
    elim (cases_lt rd (length m)) [
      | inl in_range ↦ omega (arith, sum_by-set (at p) m rd q 0 in_range, sum_by-cons (at_rename p) n ns)
      | inr past ↦ omega (arith, ap (sum_by (at p)) (set_past m rd q past), sum_by-cons (at_rename p) n ns)
    ]

after_used : (m : List ℕ) (ns : List Renamed) (i r : ℕ) → r < length m → let p = slice_index (map_after m (take i ns)) r in 0 < sum_by (at p) m + sum_by (at_rename p) (renames_of ns)
after_used m ns zero r lt = omega (arith, get_or-le-sum_by (at (slice_index m r)) m r 0 lt, at_self (slice_index m r))
after_used m [] (suc i) r lt = omega (arith, get_or-le-sum_by (at (slice_index m r)) m r 0 lt, at_self (slice_index m r))
after_used m (n ∷ ns) (suc i) r lt =
    let rd : ℕ = n.operands.destination in
    let p : ℕ = slice_index (map_after (written m rd n.destination) (take i ns)) r in
    omega (arith, after_used (written m rd n.destination) ns i r (omega (arith, length-written m rd n.destination)), written_used p m rd n.destination (renames_of ns) (rd == 0))

-- the sources of an instruction are used by its context
pub record AreUsed (b : Bank) (n : Renamed) : Type 0 where
  pub first : 0 < uses_in n.first b
  pub second : 0 < uses_in n.second b

pub sources_used : (cells : List (Option ℕ)) (b : Bank) (ns : Buffer Renamed) (i : ℕ) (d : Renamed) → IsTied cells b ns → length b.committed ≡ 32 → i < length ns.items → AreUsed b (get_or ns.items i d)
sources_used cells b ns i d t wide lt =
    let n : Renamed = get_or ns.items i d in
    let w = wired_at (length cells) b.committed ns.items i d t.wired lt in
    let m : List ℕ = map_after b.committed (take i ns.items) in
    record {
      first = rw (w.first, t.renames) (after_used b.committed ns.items i n.operands.first (omega (arith, w.first_narrow)));
      second = rw (w.second, t.renames) (after_used b.committed ns.items i n.operands.second (omega (arith, w.second_narrow)));
    }

pub used_in_banks : (f : File) (c p : ℕ) → c < length f.banks → 0 < uses_in p (bank f c) → 0 < sum_by (uses_in p) f.banks
used_in_banks f c p lt used = omega (arith, get_or-le-sum_by (uses_in p) f.banks c no_bank lt)

pub used_is_cell : (f : File) (c p : ℕ) → IsFile f → c < length f.banks → 0 < uses_in p (bank f c) → p < length f.cells
used_is_cell f c p ok lt used = used_in_range f p ok (omega (arith, used_in_banks f c p lt used))

-- a register that is free is in use nowhere
pub free_unused : (f : File) (p : ℕ) → IsFile f → IsNewestFree f p → sum_by (uses_in p) f.banks ≡ 0
free_unused f p ok e = omega (arith, used_once f p ok, newest_use p p f.free e, at_self p)

-- ---- what is unused is not seen

at_zero : (p q : ℕ) → at p q ≡ 0 → q ≢ p
at_zero p q e same = absurd (grind (arith, nat_tests))

pub same_cell : (cells : List (Option ℕ)) (p : ℕ) (x : Option ℕ) (q : ℕ) → at p q ≡ 0 → cell_of (set cells p x) q ≡ cell_of cells q
same_cell cells p x q e = get_or-set_other cells p q x None (at_zero p q e)

pub same_values : (cells : List (Option ℕ)) (p : ℕ) (x : Option ℕ) (qs : List ℕ) → sum_by (at p) qs ≡ 0 → map (value_of (set cells p x)) qs ≡ map (value_of cells) qs
same_values cells p x [] e = refl
same_values cells p x (q ∷ qs) e =
    let first = same_cell cells p x q (omega (arith, sum_by-cons (at p) q qs)) in
    let rest = same_values cells p x qs (omega (arith, sum_by-cons (at p) q qs)) in
    cc

same_result : (cells : List (Option ℕ)) (p : ℕ) (x : Option ℕ) (none : Bool) (rd q : ℕ) (ns : List Rename) → sum_by (at_rename p) (renames_with none rd q ns) ≡ 0
    → ((if none then None else cell_of (set cells p x) q) ≡ (if none then None else cell_of cells q)) × (sum_by (at_rename p) ns ≡ 0)
same_result cells p x true rd q ns e = (refl, e)
same_result cells p x false rd q ns e =
    let n : Rename = record { rd = rd; register = q } in
    (same_cell cells p x q (omega (arith, sum_by-cons (at_rename p) n ns)), omega (arith, sum_by-cons (at_rename p) n ns))

-- an instruction with a result
abbrev pub node_with : Renamed → Option ℕ → Node
node_with n r = record { operands = n.operands; result = r }

pub same_nodes : (cells : List (Option ℕ)) (p : ℕ) (x : Option ℕ) (ns : List Renamed) → sum_by (at_rename p) (renames_of ns) ≡ 0 → map (node_of (set cells p x)) ns ≡ map (node_of cells) ns
same_nodes cells p x [] e = refl
same_nodes cells p x (n ∷ ns) e =
    let h = same_result cells p x (n.operands.destination == 0) n.operands.destination n.destination (renames_of ns) e in
    let rest = same_nodes cells p x ns h.1 in
    let first : node_of (set cells p x) n ≡ node_of cells n = ap (node_with n) h.0 in
    cc

pub same_lane : (cells : List (Option ℕ)) (p : ℕ) (x : Option ℕ) (b : Bank) (ns : Buffer Renamed) → IsTied cells b ns → uses_in p b ≡ 0 → lane_of (set cells p x) b ns ≡ lane_of cells b ns
same_lane cells p x b ns t e =
    rw (same_values cells p x b.committed (omega arith), same_nodes cells p x ns.items (rw t.renames at (let none : sum_by (at_rename p) b.renames ≡ 0 = omega arith in none))) refl

pub same_lanes : (cells : List (Option ℕ)) (p : ℕ) (x : Option ℕ) (bs : List Bank) (ns : List (Buffer Renamed)) → AreTied cells bs ns → sum_by (uses_in p) bs ≡ 0 → lanes_of (set cells p x) bs ns ≡ lanes_of cells bs ns
same_lanes cells p x [] ns t e = refl
same_lanes cells p x (b ∷ bs) [] t e = refl
same_lanes cells p x (b ∷ bs) (n ∷ ns) t e =
    let first = same_lane cells p x b n t.0 (omega (arith, sum_by-cons (uses_in p) b bs)) in
    let rest = same_lanes cells p x bs ns t.1 (omega (arith, sum_by-cons (uses_in p) b bs)) in
    cc

-- values don't matter to what is tied
pub same_tied : (cells : List (Option ℕ)) (p : ℕ) (x : Option ℕ) (b : Bank) (ns : Buffer Renamed) → IsTied cells b ns → IsTied (set cells p x) b ns
same_tied cells p x b ns t = record { renames = t.renames; wired = rw length-set t.wired; growing = t.growing }

pub same_all_tied : (cells : List (Option ℕ)) (p : ℕ) (x : Option ℕ) (bs : List Bank) (ns : List (Buffer Renamed)) → AreTied cells bs ns → AreTied (set cells p x) bs ns
same_all_tied cells p x [] [] t = tt
same_all_tied cells p x [] (n ∷ ns) t = t
same_all_tied cells p x (b ∷ bs) [] t = t
same_all_tied cells p x (b ∷ bs) (n ∷ ns) t = (same_tied cells p x b n t.0, same_all_tied cells p x bs ns t.1)

-- ---- the instruction that a register belongs to

pub named_once : (ns : List Renamed) (i : ℕ) (d : Renamed) → i < length ns → ((get_or ns i d).operands.destination == 0) ≡ false → 0 < sum_by (at_rename (get_or ns i d).destination) (renames_of ns)
named_once [] i d lt e = absurd (omega arith)
named_once (n ∷ ns) zero d lt e =
    subst (λ t. 0 < sum_by (at_rename n.destination) (renames_with t n.operands.destination n.destination (renames_of ns))) (sym e)
    (omega (arith, sum_by-cons (at_rename n.destination) (record { rd = n.operands.destination; register = n.destination }) (renames_of ns), at_self n.destination))
named_once (n ∷ ns) (suc i) d lt e = more (n.operands.destination == 0) (named_once ns i d (omega arith) e)
  where
    more : (none : Bool) → 0 < sum_by (at_rename (get_or ns i d).destination) (renames_of ns) → 0 < sum_by (at_rename (get_or ns i d).destination) (renames_with none n.operands.destination n.destination (renames_of ns))
    more true h = h
    more false h = omega (arith, sum_by-cons (at_rename (get_or ns i d).destination) (record { rd = n.operands.destination; register = n.destination }) (renames_of ns))
