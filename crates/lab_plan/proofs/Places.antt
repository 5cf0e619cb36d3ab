-- What stands at each of eight places.
use Rattle.std.proofs.Common.{◌≡◌, ℕ, zero, suc, ◌<◌, [], ◌∷◌, get_or, sym, ap, subst, arith}
use Rattle.join_law.specs.declared.places.Eight.{Eight}
use Rattle.join_law.specs.Eight.{place_of, places}

pub at_places : {X : Type 0} (P : ℕ → X → Type 0) (e : Eight X) (p0 p1 p2 p3 p4 p5 p6 p7 : X) → places e ≡ p0 ∷ p1 ∷ p2 ∷ p3 ∷ p4 ∷ p5 ∷ p6 ∷ p7 ∷ []
    → P 0 p0 → P 1 p1 → P 2 p2 → P 3 p3 → P 4 p4 → P 5 p5 → P 6 p6 → P 7 p7 → (i : ℕ) → i < 8 → P i (place_of e i)
at_places P e p0 p1 p2 p3 p4 p5 p6 p7 h a0 a1 a2 a3 a4 a5 a6 a7 zero less = subst (P 0) (sym (ap (λ xs. get_or xs 0 p0) h)) a0
at_places P e p0 p1 p2 p3 p4 p5 p6 p7 h a0 a1 a2 a3 a4 a5 a6 a7 (suc zero) less = subst (P 1) (sym (ap (λ xs. get_or xs 1 p0) h)) a1
at_places P e p0 p1 p2 p3 p4 p5 p6 p7 h a0 a1 a2 a3 a4 a5 a6 a7 (suc (suc zero)) less = subst (P 2) (sym (ap (λ xs. get_or xs 2 p0) h)) a2
at_places P e p0 p1 p2 p3 p4 p5 p6 p7 h a0 a1 a2 a3 a4 a5 a6 a7 (suc (suc (suc zero))) less = subst (P 3) (sym (ap (λ xs. get_or xs 3 p0) h)) a3
at_places P e p0 p1 p2 p3 p4 p5 p6 p7 h a0 a1 a2 a3 a4 a5 a6 a7 (suc (suc (suc (suc zero)))) less = subst (P 4) (sym (ap (λ xs. get_or xs 4 p0) h)) a4
at_places P e p0 p1 p2 p3 p4 p5 p6 p7 h a0 a1 a2 a3 a4 a5 a6 a7 (suc (suc (suc (suc (suc zero))))) less = subst (P 5) (sym (ap (λ xs. get_or xs 5 p0) h)) a5
at_places P e p0 p1 p2 p3 p4 p5 p6 p7 h a0 a1 a2 a3 a4 a5 a6 a7 (suc (suc (suc (suc (suc (suc zero)))))) less = subst (P 6) (sym (ap (λ xs. get_or xs 6 p0) h)) a6
at_places P e p0 p1 p2 p3 p4 p5 p6 p7 h a0 a1 a2 a3 a4 a5 a6 a7 (suc (suc (suc (suc (suc (suc (suc zero))))))) less = subst (P 7) (sym (ap (λ xs. get_or xs 7 p0) h)) a7
at_places P e p0 p1 p2 p3 p4 p5 p6 p7 h a0 a1 a2 a3 a4 a5 a6 a7 (suc (suc (suc (suc (suc (suc (suc (suc i)))))))) less = absurd (omega (arith, less))
