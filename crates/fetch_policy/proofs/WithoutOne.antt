-- Eight numbers, one of which is put out by a vector.
use Rattle.std.proofs.Common.{◌≡◌, ℕ, zero, suc, ◌<◌, cond, nat_eq, List, [], ◌∷◌, length, get_or, refl, sym, subst, arith}
use Rattle.std.specs.Prelude.{Bool, true, false, set}
use Rattle.std.specs.Simd.Lanes.{sel_l}

eight_of : (xs : List ℕ) → length xs ≡ 8 → xs ≡ get_or xs 0 0 ∷ get_or xs 1 0 ∷ get_or xs 2 0 ∷ get_or xs 3 0 ∷ get_or xs 4 0 ∷ get_or xs 5 0 ∷ get_or xs 6 0 ∷ get_or xs 7 0 ∷ []
eight_of [] long = absurd cc
eight_of (a ∷ []) long = absurd cc
eight_of (a ∷ b ∷ []) long = absurd cc
eight_of (a ∷ b ∷ c ∷ []) long = absurd cc
eight_of (a ∷ b ∷ c ∷ d ∷ []) long = absurd cc
eight_of (a ∷ b ∷ c ∷ d ∷ e ∷ []) long = absurd cc
eight_of (a ∷ b ∷ c ∷ d ∷ e ∷ f ∷ []) long = absurd cc
eight_of (a ∷ b ∷ c ∷ d ∷ e ∷ f ∷ g ∷ []) long = absurd cc
eight_of (a ∷ b ∷ c ∷ d ∷ e ∷ f ∷ g ∷ h ∷ []) long = refl
eight_of (a ∷ b ∷ c ∷ d ∷ e ∷ f ∷ g ∷ h ∷ i ∷ xs) long = absurd (omega (arith, long))

-- Of any width: `all` is a lane of ones, which `top` sees, and no lane of zeros.
module _ (top : ℕ → Bool) (all : ℕ) (ones : top all ≡ true) (zeros : top 0 ≡ false) where
  -- a lane is the one that is put out
  abbrev mark : ℕ → ℕ → Bool
  mark n i = top (cond (nat_eq i n) all 0)

  abbrev marks : ℕ → List Bool
  marks n = mark n 0 ∷ mark n 1 ∷ mark n 2 ∷ mark n 3 ∷ mark n 4 ∷ mark n 5 ∷ mark n 6 ∷ mark n 7 ∷ []

  out_of_eight : (a b c d e f g h k n : ℕ) → n < 8 → sel_l (marks n) (k ∷ k ∷ k ∷ k ∷ k ∷ k ∷ k ∷ k ∷ []) (a ∷ b ∷ c ∷ d ∷ e ∷ f ∷ g ∷ h ∷ []) ≡ set (a ∷ b ∷ c ∷ d ∷ e ∷ f ∷ g ∷ h ∷ []) n k
  out_of_eight a b c d e f g h k zero lt = rw ones (rw zeros refl)
  out_of_eight a b c d e f g h k (suc zero) lt = rw ones (rw zeros refl)
  out_of_eight a b c d e f g h k (suc (suc zero)) lt = rw ones (rw zeros refl)
  out_of_eight a b c d e f g h k (suc (suc (suc zero))) lt = rw ones (rw zeros refl)
  out_of_eight a b c d e f g h k (suc (suc (suc (suc zero)))) lt = rw ones (rw zeros refl)
  out_of_eight a b c d e f g h k (suc (suc (suc (suc (suc zero))))) lt = rw ones (rw zeros refl)
  out_of_eight a b c d e f g h k (suc (suc (suc (suc (suc (suc zero)))))) lt = rw ones (rw zeros refl)
  out_of_eight a b c d e f g h k (suc (suc (suc (suc (suc (suc (suc zero))))))) lt = rw ones (rw zeros refl)
  out_of_eight a b c d e f g h k (suc (suc (suc (suc (suc (suc (suc (suc n)))))))) lt = absurd (omega (arith, lt))

  -- where the one's place has the number that puts it out, the others are left as they are
  pub without_one : (k : ℕ) (xs : List ℕ) (n : ℕ) → length xs ≡ 8 → n < 8 → sel_l (marks n) (k ∷ k ∷ k ∷ k ∷ k ∷ k ∷ k ∷ k ∷ []) xs ≡ set xs n k
  without_one k xs n long lt =
      subst (λ ys. sel_l (marks n) (k ∷ k ∷ k ∷ k ∷ k ∷ k ∷ k ∷ k ∷ []) ys ≡ set ys n k) (sym (eight_of xs long))
      (out_of_eight (get_or xs 0 0) (get_or xs 1 0) (get_or xs 2 0) (get_or xs 3 0) (get_or xs 4 0) (get_or xs 5 0) (get_or xs 6 0) (get_or xs 7 0) k n lt)
