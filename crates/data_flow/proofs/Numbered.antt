-- Items that are numbered modulo 256: which are listed, after each change of the numbers.
use Rattle.std.proofs.Common.{◌≡◌, ℕ, zero, suc, ◌+◌, ◌-◌, ◌<◌, ◌%◌, List, [], ◌∷◌, ◌++◌, length, get_or, take, drop, slice_get, Some, refl, sym, ap, ◌∙◌, arith, inl, inr}
use Rattle.std.proofs.lemmas.Bool.{cases_eq}
use Rattle.std.proofs.lemmas.List.{length_push, get_or_push, get_or_append_left, take-append-le, take_all}
use Rattle.std.proofs.lemmas.Option.{slice_get-get_or}
use Rattle.data_flow.specs.Numbered.{numbered, count}

module _ {X : Type 0} where
  length-numbered : (at : ℕ → X) (h n : ℕ) → length (numbered at h n) ≡ n
  length-numbered at h zero = refl
  length-numbered at h (suc n) = omega (arith, length_push (numbered at h n) (at ((h + n) % 256)), length-numbered at h n)

  -- the same items at the numbers listed
  numbered_same : (f g : ℕ → X) (h n : ℕ) → ((k : ℕ) → k < n → f ((h + k) % 256) ≡ g ((h + k) % 256)) → numbered f h n ≡ numbered g h n
  numbered_same f g h zero same = refl
  numbered_same f g h (suc n) same = rw (numbered_same f g h n (λ k lt. same k (omega arith)), same n (omega arith)) refl

  numbered_at : (at : ℕ → X) (h n k : ℕ) (d : X) → k < n → get_or (numbered at h n) k d ≡ at ((h + k) % 256)
  numbered_at at h zero k d lt = absurd (omega arith)
  numbered_at at h (suc n) k d lt =
      let len = length-numbered at h n in
      elim (cases_eq k n) [
        | inl last ↦ get_or_push (numbered at h n) (at ((h + n) % 256)) d k (omega (arith, len, last)) ∙ ap (λ i. at ((h + i) % 256)) (sym last)
        | inr differ ↦ get_or_append_left (numbered at h n) (at ((h + n) % 256) ∷ []) d k (omega (arith, len, differ)) ∙ numbered_at at h n k d (omega (arith, differ))
      ]

  numbered_take : (at : ℕ → X) (h n k : ℕ) → n ≡ suc k → take k (numbered at h n) ≡ numbered at h k
  numbered_take at h n k is =
      let wide = length-numbered at h k in
      rw is (take-append-le k (numbered at h k) (at ((h + k) % 256) ∷ []) (omega (arith, wide)) ∙ take_all k (numbered at h k) (omega (arith, wide)))

  numbered_front : (at : ℕ → X) (h n : ℕ) → h < 256 → numbered at h (suc n) ≡ at h ∷ numbered at ((h + 1) % 256) n
  numbered_front at h zero lt = let first : (h + 0) % 256 ≡ h = omega arith in rw first refl
  numbered_front at h (suc n) lt =
      let next : (h + suc n) % 256 ≡ ((h + 1) % 256 + n) % 256 = omega arith in
      rw (next, numbered_front at h n lt) refl

  -- ---- what is listed in now, and after each change

  pub counted : (at : ℕ → X) (h t : ℕ) (now : List X) → numbered at h (count h t) ≡ now → length now ≡ count h t
  counted at h t now is = ap length (sym is) ∙ length-numbered at h (count h t)

  pub found_at : (at : ℕ → X) (h t k : ℕ) (now : List X) → numbered at h (count h t) ≡ now → k < length now → slice_get now k ≡ Some (at ((h + k) % 256))
  found_at at h t k now is lt =
      let len = counted at h t now is in
      let found : X = at ((h + k) % 256) in
      slice_get-get_or now k found lt ∙ ap (λ (xs : List X). Some (get_or xs k found)) (sym is) ∙ ap Some (numbered_at at h (count h t) k found (omega (arith, len, lt)))

  pub pushed : (f g : ℕ → X) (h t : ℕ) (now : List X) (x : X) → numbered f h (count h t) ≡ now → h < 256 → t < 256 → length now < 255 → g t ≡ x → ((k : ℕ) → k < length now → g ((h + k) % 256) ≡ f ((h + k) % 256)) → numbered g h (count h ((t + 1) % 256)) ≡ now ++ x ∷ []
  pushed f g h t now x is below below' room new others =
      let n : ℕ = count h t in
      let len = counted f h t now is in
      let more : count h ((t + 1) % 256) ≡ suc n = omega (arith, len, room) in
      let last : (h + n) % 256 ≡ t = omega arith in
      let before : numbered g h n ≡ numbered f h n = numbered_same g f h n (λ k lt. others k (omega (arith, len, lt))) in
      rw more (ap (λ (xs : List X). xs ++ g ((h + n) % 256) ∷ []) (before ∙ is) ∙ ap (λ (i : ℕ). now ++ g i ∷ []) last ∙ ap (λ (y : X). now ++ y ∷ []) new)

  pub popped_back : (at : ℕ → X) (h t : ℕ) (now : List X) → numbered at h (count h t) ≡ now → h < 256 → t < 256 → 0 < length now → numbered at h (count h ((t + 255) % 256)) ≡ take (length now - 1) now
  popped_back at h t now is below below' some =
      let n : ℕ = count h t in
      let len = counted at h t now is in
      let less : count h ((t + 255) % 256) ≡ n - 1 = omega (arith, len, some) in
      rw (less, len) (sym (ap (take (n - 1)) (sym is) ∙ numbered_take at h n (n - 1) (omega (arith, len, some))))

  pub popped_front : (at : ℕ → X) (h t : ℕ) (now : List X) → numbered at h (count h t) ≡ now → h < 256 → t < 256 → 0 < length now → numbered at ((h + 1) % 256) (count ((h + 1) % 256) t) ≡ drop 1 now
  popped_front at h t now is below below' some =
      let n : ℕ = count h t in
      let len = counted at h t now is in
      let one : n ≡ suc (n - 1) = omega (arith, len, some) in
      let less : count ((h + 1) % 256) t ≡ n - 1 = omega (arith, len, some) in
      let split : now ≡ at h ∷ numbered at ((h + 1) % 256) (n - 1) = sym is ∙ ap (numbered at h) one ∙ numbered_front at h (n - 1) below in
      rw less (sym (ap (drop 1) split))
