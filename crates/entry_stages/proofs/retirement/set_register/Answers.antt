use Rattle.std.proofs.Common.{◌≡◌, ℕ, zero, suc, ◌<◌, List, [], ◌∷◌, length, get_or, set, cond, refl, ap, sym, arith, ◌∙◌}
use Rattle.std.proofs.lemmas.Bool.{ne_eqb}
use Rattle.hart_step.specs.State.{written}
use Rattle.entry_stages.proofs.retirement.set_register.Goals as goal

written-is : (registers : List ℕ) (register value : ℕ) → 0 < length registers → set (set registers register value) 0 (get_or registers 0 0) ≡ written registers register value
written-is [] register value some = absurd (omega arith)
written-is (r ∷ registers) zero value some = refl
written-is (r ∷ registers) (suc register) value some = ap (λ b. cond b (r ∷ registers) (r ∷ set registers register value)) (sym (ne_eqb (suc register) 0 (λ same. omega (arith, same))))

pub returns : goal.returns
returns c =
    ap (λ n. set (set c.args.registers.now n c.args.value) 0 (get_or c.args.registers.now 0 0)) c.index-place.ensures.same
    ∙ written-is c.args.registers.now c.args.destination c.args.value (omega (arith, c.told-registers))
