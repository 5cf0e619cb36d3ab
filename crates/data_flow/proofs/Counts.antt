-- The extra registers in use are the instructions with a destination.
use Rattle.std.proofs.Common.{◌≡◌, ℕ, ◌+◌, Bool, true, false, not, cond, List, [], ◌∷◌, length, map, Option, refl, ap, sym, subst, ◌∙◌, arith}
use Rattle.std.specs.Prelude.{sum_by, count_by, ◌==◌, if◌then◌else◌}
use Rattle.std.proofs.lemmas.List.Sums.{sum_by-cons}
use Rattle.rename_file.specs.File.{Bank, rename_count}
use Rattle.issue_queue.specs.Entry.{Entry}
use Rattle.circular_buffer.specs.Buffer.{Buffer}
use Rattle.data_flow.specs.declared.operands.Renamed.{Renamed}
use Rattle.data_flow.specs.declared.data_flow.DataFlow.TheInside.{Inside}
use Rattle.data_flow.specs.Flow.{Node, Flow, Waiter, takes, taken_in, taken}
use Rattle.data_flow.specs.Wired.{waiter_of, node_of, lane_of, lanes_of, renames_of, AreTied, IsWiredUp, flow}

pub counted : (cells : List (Option ℕ)) (ns : List Renamed) → count_by takes (map (node_of cells) ns) ≡ length (renames_of ns)
counted cells [] = refl
counted cells (n ∷ ns) =
    sum_by-cons (λ (x : Node). cond (takes x) 1 0) (node_of cells n) (map (node_of cells) ns) ∙ at_test (n.operands.destination == 0) (counted cells ns)
  where
    at_test : (b : Bool) → count_by takes (map (node_of cells) ns) ≡ length (renames_of ns)
        → cond (not b) 1 0 + count_by takes (map (node_of cells) ns) ≡ length (if b then renames_of ns else record { rd = n.operands.destination; register = n.destination } ∷ renames_of ns)
    at_test true rest = omega (arith, rest)
    at_test false rest = omega (arith, rest)

pub counted_all : (cells : List (Option ℕ)) (bs : List Bank) (ns : List (Buffer Renamed)) → AreTied cells bs ns → sum_by taken_in (lanes_of cells bs ns) ≡ sum_by (λ b. length b.renames) bs
counted_all cells [] ns t = refl
counted_all cells (b ∷ bs) [] t = absurd t
counted_all cells (b ∷ bs) (n ∷ ns) t =
    omega (arith, sum_by-cons taken_in (lane_of cells b n) (lanes_of cells bs ns), sum_by-cons (λ (x : Bank). length x.renames) b bs, counted_all cells bs ns t.1, counted cells n.items, ap length t.0.renames)

pub free_left : {A : Type 0} (d : Inside A) (now : Flow) (k : ℕ) → flow d ≡ now → IsWiredUp d → k ≡ length d.registers.free → k + taken now ≡ now.extra
free_left d now k shows up is =
    let count : taken (flow d) ≡ rename_count d.registers = counted_all d.registers.cells d.registers.banks d.renamed up.tied in
    subst (λ (f : Flow). k + taken f ≡ f.extra) shows (omega (arith, count, up.file.extra, is))

-- ---- what waits

pub count_waiters : (p : Waiter → Bool) (es : List Entry) → count_by (λ e. p (waiter_of e)) es ≡ count_by p (map waiter_of es)
count_waiters p [] = refl
count_waiters p (e ∷ es) =
    sum_by-cons (λ (x : Entry). cond (p (waiter_of x)) 1 0) e es ∙ ap (λ n. cond (p (waiter_of e)) 1 0 + n) (count_waiters p es)
    ∙ sym (sum_by-cons (λ (x : Waiter). cond (p x) 1 0) (waiter_of e) (map waiter_of es))
