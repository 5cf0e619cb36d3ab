-- Eight values, one for each context.
use Rattle.std.specs.Prelude.{◌≡◌, ℕ, zero, suc, ◌<◌, List, [], ◌∷◌, refl}
use Rattle.std.proofs.Common.{arith}
use Rattle.join_law.specs.declared.places.Eight.{Eight}

-- the value of a context; a number past the last context has that one's value
abbrev pub place_of : {J : Type 0} → Eight J → ℕ → J
place_of e zero = e.c0
place_of e (suc zero) = e.c1
place_of e (suc (suc zero)) = e.c2
place_of e (suc (suc (suc zero))) = e.c3
place_of e (suc (suc (suc (suc zero)))) = e.c4
place_of e (suc (suc (suc (suc (suc zero))))) = e.c5
place_of e (suc (suc (suc (suc (suc (suc zero)))))) = e.c6
place_of e (suc (suc (suc (suc (suc (suc (suc n))))))) = e.c7

-- the values in order of context
abbrev pub places : {J : Type 0} → Eight J → List J
places e = e.c0 ∷ e.c1 ∷ e.c2 ∷ e.c3 ∷ e.c4 ∷ e.c5 ∷ e.c6 ∷ e.c7 ∷ []

-- the eight with the value f i for each context i
abbrev pub eight_from : {J : Type 0} → (ℕ → J) → Eight J
eight_from f = record { c0 = f 0; c1 = f 1; c2 = f 2; c3 = f 3; c4 = f 4; c5 = f 5; c6 = f 6; c7 = f 7 }

-- the two values of each context are kin
abbrev pub EightKin : {J : Type 0} → (J → J → Type 0) → Eight J → Eight J → Type 0
EightKin is_kin x y = (i : ℕ) → i < 8 → is_kin (place_of x i) (place_of y i)

-- the two values of each context are joined
abbrev pub eight_joined : {J : Type 0} → (J → J → J) → Eight J → Eight J → Eight J
eight_joined joined x y = eight_from (λ i. joined (place_of x i) (place_of y i))

-- eights of equal parts are equal
same_parts : {J : Type 0} (a0 a1 a2 a3 a4 a5 a6 a7 b0 b1 b2 b3 b4 b5 b6 b7 : J) → a0 ≡ b0 → a1 ≡ b1 → a2 ≡ b2 → a3 ≡ b3 → a4 ≡ b4 → a5 ≡ b5 → a6 ≡ b6 → a7 ≡ b7 → ◌≡◌ {A = Eight J} (record { c0 = a0; c1 = a1; c2 = a2; c3 = a3; c4 = a4; c5 = a5; c6 = a6; c7 = a7 }) (record { c0 = b0; c1 = b1; c2 = b2; c3 = b3; c4 = b4; c5 = b5; c6 = b6; c7 = b7 })
same_parts a0 a1 a2 a3 a4 a5 a6 a7 b0 b1 b2 b3 b4 b5 b6 b7 p0 p1 p2 p3 p4 p5 p6 p7 = rw (p0, p1, p2, p3, p4, p5, p6, p7) refl

-- eights with equal values at each context are equal
pub same_places : {J : Type 0} (x y : Eight J) → ((i : ℕ) → i < 8 → place_of x i ≡ place_of y i) → x ≡ y
same_places x y e = same_parts x.c0 x.c1 x.c2 x.c3 x.c4 x.c5 x.c6 x.c7 y.c0 y.c1 y.c2 y.c3 y.c4 y.c5 y.c6 y.c7 (e 0 (omega arith)) (e 1 (omega arith)) (e 2 (omega arith)) (e 3 (omega arith)) (e 4 (omega arith)) (e 5 (omega arith)) (e 6 (omega arith)) (e 7 (omega arith))
