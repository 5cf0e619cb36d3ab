-- A list of eight values, value by value.
use Rattle.std.proofs.Common.{◌≡◌, ℕ, ◌<◌, List, [], ◌∷◌, length, get_or, zero, suc, ◌∙◌, sym, arith}
use Rattle.std.proofs.lemmas.List.{same_lists, get_or_default}

module _ {X : Type 0} (xs : List X) (c0 c1 c2 c3 c4 c5 c6 c7 : X) (eight : length xs ≡ 8) (at_0 : c0 ≡ get_or xs 0 c0) (at_1 : c1 ≡ get_or xs 1 c1) (at_2 : c2 ≡ get_or xs 2 c2) (at_3 : c3 ≡ get_or xs 3 c3) (at_4 : c4 ≡ get_or xs 4 c4) (at_5 : c5 ≡ get_or xs 5 c5) (at_6 : c6 ≡ get_or xs 6 c6) (at_7 : c7 ≡ get_or xs 7 c7) where
  each : (k : ℕ) (d : X) → k < 8 → get_or (c0 ∷ c1 ∷ c2 ∷ c3 ∷ c4 ∷ c5 ∷ c6 ∷ c7 ∷ []) k d ≡ get_or xs k d
  each zero d h = at_0 ∙ get_or_default xs 0 c0 d (omega arith)
  each (suc zero) d h = at_1 ∙ get_or_default xs 1 c1 d (omega arith)
  each (suc (suc zero)) d h = at_2 ∙ get_or_default xs 2 c2 d (omega arith)
  each (suc (suc (suc zero))) d h = at_3 ∙ get_or_default xs 3 c3 d (omega arith)
  each (suc (suc (suc (suc zero)))) d h = at_4 ∙ get_or_default xs 4 c4 d (omega arith)
  each (suc (suc (suc (suc (suc zero))))) d h = at_5 ∙ get_or_default xs 5 c5 d (omega arith)
  each (suc (suc (suc (suc (suc (suc zero)))))) d h = at_6 ∙ get_or_default xs 6 c6 d (omega arith)
  each (suc (suc (suc (suc (suc (suc (suc zero))))))) d h = at_7 ∙ get_or_default xs 7 c7 d (omega arith)
  each (suc (suc (suc (suc (suc (suc (suc (suc n)))))))) d h = absurd (omega arith)

  pub listed : c0 ∷ c1 ∷ c2 ∷ c3 ∷ c4 ∷ c5 ∷ c6 ∷ c7 ∷ [] ≡ xs
  listed = same_lists (c0 ∷ c1 ∷ c2 ∷ c3 ∷ c4 ∷ c5 ∷ c6 ∷ c7 ∷ []) xs (sym eight) (λ k d h. each k d h)
