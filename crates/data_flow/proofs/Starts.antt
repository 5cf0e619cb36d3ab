-- Contexts that have done nothing yet.
use Rattle.std.proofs.Common.{◌≡◌, ℕ, zero, suc, ◌+◌, ◌-◌, ◌<◌, List, [], ◌∷◌, length, get_or, map, replicate, Option, Some, None, refl, ap, ◌∙◌, arith}
use Rattle.std.specs.Prelude.{slice_index, unwrap_or}
use Rattle.std.proofs.lemmas.List.{get_or-replicate, length-replicate}
use Rattle.std.proofs.lemmas.List.Elements.{All-nil}
use Rattle.rename_file.specs.File.{Bank, no_bank, File}
use Rattle.rename_file.specs.Fresh.{IsFresh}
use Rattle.rename_file.proofs.Laws.{committed_in_range}
use Rattle.circular_buffer.specs.Buffer.{Buffer, buffer}
use Rattle.issue_queue.specs.IssueQueue.{IssueQueue}
use Rattle.data_flow.specs.declared.operands.Renamed.{Renamed}
use Rattle.data_flow.specs.Flow.{first_lane, first_flow}
use Rattle.data_flow.specs.Wired.{cell_of, value_of, lane_of, lanes_of, IsTied, AreTied, IsWaiting}
use Rattle.data_flow.proofs.Steps.{Leaves}

-- each register has the value 0
all_zero : (n : ℕ) (cells : List (Option ℕ)) (ps : List ℕ) → cells ≡ replicate n (Some 0) → ((i : ℕ) → i < length ps → slice_index ps i < n) → map (value_of cells) ps ≡ replicate (length ps) 0
all_zero n cells [] e h = refl
all_zero n cells (p ∷ ps) e h =
    let here : cell_of cells p ≡ Some 0 = rw e (get_or-replicate {A = Option ℕ} n p (Some 0) None (h 0 (omega arith))) in
    let value : value_of cells p ≡ 0 = ap (λ o. unwrap_or o 0) here in
    let rest = all_zero n cells ps e (λ i lt. h (suc i) (omega arith)) in
    ap (λ v. v ∷ map (value_of cells) ps) value ∙ ap (λ vs. 0 ∷ vs) rest

-- a context without renames, whose registers are all among the first n
pub record IsUnused (n : ℕ) (b : Bank) : Type 0 where
  pub renames : b.renames ≡ []
  pub wide : length b.committed ≡ 32
  pub in_range : (r : ℕ) → r < 32 → slice_index b.committed r < n

first_one : (n room : ℕ) (cells : List (Option ℕ)) (b : Bank) → cells ≡ replicate n (Some 0) → IsUnused n b → IsTied cells b (buffer [] room) × (lane_of cells b (buffer [] room) ≡ first_lane room)
first_one n room cells b e h =
    let zeros = all_zero n cells b.committed e (λ i lt. h.in_range i (omega (arith, h.wide))) in
    (record { renames = h.renames; wired = tt; growing = λ i j d lt in_range. absurd (omega arith) }, rw (zeros, h.wide) refl)

first_all : (n room k : ℕ) (cells : List (Option ℕ)) (bs : List Bank) → cells ≡ replicate n (Some 0) → length bs ≡ k → ((c : ℕ) → c < length bs → IsUnused n (get_or bs c no_bank))
    → AreTied cells bs (replicate k (buffer [] room)) × (lanes_of cells bs (replicate k (buffer [] room)) ≡ replicate k (first_lane room))
first_all n room zero cells [] e len h = (tt, refl)
first_all n room zero cells (b ∷ bs) e len h = absurd (omega arith)
first_all n room (suc k) cells [] e len h = absurd (omega arith)
first_all n room (suc k) cells (b ∷ bs) e len h =
    let one = first_one n room cells b e (h 0 (omega arith)) in
    let rest = first_all n room k cells bs e (omega arith) (λ c lt. h (suc c) (omega arith)) in
    ((one.0, rest.0), ap (λ l. l ∷ lanes_of cells bs (replicate k (buffer [] room))) one.1 ∙ ap (λ ls. first_lane room ∷ ls) rest.1)

pub starts : (r : File) (ns : List (Buffer Renamed)) (q : IssueQueue) (extra room places : ℕ) → IsFresh r extra → ns ≡ replicate 8 (buffer [] room) → q ≡ record { capacity = places; entries = [] } → Leaves r ns q (first_flow extra room places)
starts r ns q extra room places fresh ns-is q-is =
    let n : ℕ = 256 + extra in
    let total : length r.cells ≡ n = ap length fresh.cells ∙ length-replicate {A = Option ℕ} n (Some 0) in
    let unused : (c : ℕ) → c < length r.banks → IsUnused n (get_or r.banks c no_bank) = λ c lt.
    let below : c < 8 = omega (arith, fresh.file.eight) in
    record { renames = fresh.renames c below; wide = (fresh.file.banks c below).wide; in_range = λ x narrow. omega (arith, total, committed_in_range r c x fresh.file below narrow) } in
    let all = first_all n room 8 r.cells r.banks fresh.cells fresh.file.eight unused in
    let left : length r.cells - 256 ≡ extra = omega (arith, total) in
    rw (ns-is, q-is) (record { tied = all.0; waiting = All-nil (IsWaiting r.cells (replicate 8 (buffer [] room))); shows = let lanes = all.1 in cc })
