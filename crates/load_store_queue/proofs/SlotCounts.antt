-- How many slots there are: as many as the first items that pass a test, where those have one and no other has.
use Rattle.std.proofs.Common.{◌≡◌, ℕ, zero, suc, ◌+◌, Bool, true, false, ◌&&◌, cond, List, [], ◌∷◌, length, get_or, take, count_by, filter_map, Option, Some, None, is_some, refl, sym, ap, ◌∙◌, arith}
use Rattle.std.specs.Prelude.{nat_lt}
use Rattle.std.specs.List.{cons_option}
use Rattle.std.proofs.lemmas.Bool.{and_right, lt-ltb, le-ltb}
use Rattle.std.proofs.lemmas.Bool.Decides.{nat_tests}
use Rattle.std.proofs.lemmas.List.Sums.{sum_by-cons}

length-cons_option : {Y : Type 0} (o : Option Y) (ys : List Y) (b : Bool) → is_some o ≡ b → length (cons_option o ys) ≡ cond b 1 0 + length ys
length-cons_option None ys b is = rw (sym is) (omega arith)
length-cons_option (Some y) ys b is = rw (sym is) (omega arith)

module _ {X Y : Type 0} (slot : X → Option Y) (test : X → Bool) (d : X) where
  -- those of the first n that pass a test have a slot, and no others
  abbrev pub HaveSlots : ℕ → List X → Type 0
  HaveSlots n xs = (i : ℕ) → is_some (slot (get_or xs i d)) ≡ (test (get_or xs i d) && nat_lt i n)

  pub length-slots : (n : ℕ) (xs : List X) → HaveSlots n xs → length (filter_map slot xs) ≡ count_by test (take n xs)
  length-slots zero [] h = refl
  length-slots (suc n) [] h = refl
  length-slots zero (x ∷ xs) h =
      length-cons_option (slot x) (filter_map slot xs) false (h 0 ∙ and_right (test x) (nat_lt 0 0) refl)
      ∙ omega (arith, length-slots zero xs (λ i. h (suc i) ∙ ap (λ b. test (get_or xs i d) && b) (none-below i)))
    where
      none-below : (i : ℕ) → nat_lt (suc i) 0 ≡ nat_lt i 0
      none-below i = le-ltb (suc i) 0 (omega arith) ∙ sym (le-ltb i 0 (omega arith))
  length-slots (suc n) (x ∷ xs) h =
      length-cons_option (slot x) (filter_map slot xs) (test x) (h 0 ∙ and-true (test x) (nat_lt 0 (suc n)) (lt-ltb 0 (suc n) (omega arith)))
      ∙ ap (λ k. cond (test x) 1 0 + k) (length-slots n xs (λ i. h (suc i) ∙ ap (λ b. test (get_or xs i d) && b) (one-less i)))
      ∙ sym (sum_by-cons (λ y. cond (test y) 1 0) x (take n xs))
    where
      and-true : (a b : Bool) → b ≡ true → (a && b) ≡ a
      and-true true b is = is
      and-true false b is = refl

      one-less : (i : ℕ) → nat_lt (suc i) (suc n) ≡ nat_lt i n
      one-less i = grind (arith, nat_tests)
