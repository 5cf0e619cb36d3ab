-- The free registers, a stack in slots.
use Rattle.std.proofs.Common.{◌≡◌, ℕ, zero, suc, ◌+◌, ◌-◌, ◌<◌, ◌≤◌, List, [], ◌∷◌, ◌++◌, length, get_or, take, drop, slice_get, Some, refl, sym, ap, ◌∙◌, arith}
use Rattle.std.specs.Prelude.{set}
use Rattle.std.proofs.lemmas.List.{length-take, length-drop, drop-set-add, take_more_set, get_or-take, get_or-drop}
use Rattle.std.proofs.lemmas.Option.{slice_get-get_or}

take_shorter : {X : Type 0} (k n : ℕ) (xs : List X) → k ≤ n → take k xs ≡ take k (take n xs)
take_shorter zero n xs le = refl
take_shorter (suc k) zero [] le = refl
take_shorter (suc k) (suc n) [] le = refl
take_shorter (suc k) zero (x ∷ xs) le = absurd (omega arith)
take_shorter (suc k) (suc n) (x ∷ xs) le = ap (λ ys. x ∷ ys) (take_shorter k n xs (omega (arith, le)))

module _ (slots : List ℕ) (count : ℕ) (now : List ℕ) (is : take count (drop 1 slots) ≡ now) (wide : length slots ≡ 256) (few : count ≤ 255) where
  pub counted : length now ≡ count
  counted = omega (arith, ap (λ (xs : List ℕ). length xs) is, length-take count (drop 1 slots), length-drop 1 slots, wide, few)

  pub pushed : (j p : ℕ) → j ≡ count + 1 → length now < 255 → take (count + 1) (drop 1 (set slots j p)) ≡ now ++ p ∷ []
  pushed j p slot room =
      let same : j ≡ 1 + count = omega (arith, slot) in
      ap (λ k. take (count + 1) (drop 1 (set slots k p))) same
      ∙ ap (take (count + 1)) (drop-set-add 1 slots count p)
      ∙ take_more_set (drop 1 slots) count p (omega (arith, length-drop 1 slots, wide, counted, room))
      ∙ ap (λ (xs : List ℕ). xs ++ p ∷ []) is

  -- nothing is taken off
  pub kept : (k : ℕ) → k ≡ count → take k (drop 1 slots) ≡ now
  kept k same = ap (λ n. take n (drop 1 slots)) same ∙ is

  -- the newest is taken off
  pub popped : (k : ℕ) → k + 1 ≡ count → take k (drop 1 slots) ≡ take (length now - 1) now
  popped k one =
      let last : k ≡ length now - 1 = omega (arith, one, counted) in
      take_shorter k count (drop 1 slots) (omega (arith, one)) ∙ ap (take k) is ∙ ap (λ n. take n now) last

  -- which stands in the slot of the count
  pub newest : (j p : ℕ) → j ≡ count → 0 < length now → p ≡ get_or slots j p → slice_get now (length now - 1) ≡ Some p
  newest j p slot some read =
      let place : 1 + (length now - 1) ≡ j = omega (arith, some, counted, slot) in
      slice_get-get_or now (length now - 1) p (omega (arith, some))
      ∙ ap Some (
      ap (λ (xs : List ℕ). get_or xs (length now - 1) p) (sym is)
      ∙ get_or-take count (drop 1 slots) (length now - 1) p (omega (arith, some, counted))
      ∙ get_or-drop 1 slots (length now - 1) p
      ∙ ap (λ i. get_or slots i p) place
      ∙ sym read
      )
