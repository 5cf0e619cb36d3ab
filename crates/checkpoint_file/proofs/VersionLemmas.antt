-- Digits at the front.
use Rattle.std.proofs.Common.{◌≡◌, ◌⊎◌, inl, inr, ◌+◌, ◌<◌, ℕ, zero, suc, Bool, true, false, ◌&&◌, List, [], ◌∷◌, ◌++◌, length, refl, sym, ap, ◌∙◌, append_assoc, arith, get_or, drop, take, nat_eq, ◌≤◌, ◌-◌}
use Rattle.std.specs.Prelude.{codes}
use Rattle.std.specs.Char.{is_ascii_digit}
use Rattle.std.specs.List.{list_all}
use Rattle.std.proofs.lemmas.List.{length-append, take_all}
use Rattle.checkpoint_file.specs.Lines.{version_line}
use Rattle.checkpoint_file.specs.Versions.{HasDigits, HasOtherNumber, IsNoDigit, IsOther, IsOtherVersion}

-- the first byte and the others
pub uncons : (bytes : List ℕ) → 1 ≤ length bytes → bytes ≡ get_or bytes 0 0 ∷ take (length bytes - 1) (drop 1 bytes)
uncons [] some = absurd (omega (arith, some))
uncons (x ∷ xs) some = let count : suc (length xs) - 1 ≡ length xs = omega arith in rw count (ap (λ (t : List ℕ). x ∷ t) (sym (take_all (length xs) xs (omega arith))))

pub read_none : (bytes : List ℕ) → HasDigits bytes bytes
read_none bytes = record { digits = []; all = refl; parts = refl }

both_true : (a b : Bool) → a ≡ true → b ≡ true → (a && b) ≡ true
both_true a b e f = rw (e, f) refl

left_true : (a b : Bool) → (a && b) ≡ true → a ≡ true
left_true true b e = refl
left_true false b e = e

right_true : (a b : Bool) → (a && b) ≡ true → b ≡ true
right_true true b e = e
right_true false b e = cc

all_more : (digits : List ℕ) (d : ℕ) → list_all is_ascii_digit digits ≡ true → is_ascii_digit d ≡ true → list_all is_ascii_digit (digits ++ (d ∷ [])) ≡ true
all_more [] d all digit = both_true (is_ascii_digit d) true digit refl
all_more (x ∷ xs) d all digit =
    both_true (is_ascii_digit x) (list_all is_ascii_digit (xs ++ (d ∷ []))) (left_true (is_ascii_digit x) (list_all is_ascii_digit xs) all)
    (all_more xs d (right_true (is_ascii_digit x) (list_all is_ascii_digit xs) all) digit)

-- one more digit
pub read_more : (bytes rest others : List ℕ) (d : ℕ) → HasDigits bytes rest → rest ≡ d ∷ others → is_ascii_digit d ≡ true → HasDigits bytes others
read_more bytes rest others d h e digit = record {
  digits = h.digits ++ (d ∷ []);
  all = all_more h.digits d h.all digit;
  parts = h.parts ∙ ap (λ (t : List ℕ). h.digits ++ t) e ∙ sym (append_assoc h.digits (d ∷ []) others);
}

-- digits in front of what begins with none are the same
pub split_once : (a b r s : List ℕ) → list_all is_ascii_digit a ≡ true → list_all is_ascii_digit b ≡ true → IsNoDigit r → IsNoDigit s → a ++ r ≡ b ++ s → (a ≡ b) × (r ≡ s)
split_once [] [] r s x y m n e = (refl, e)
split_once [] (d ∷ b) r s x y m n e = let no : is_ascii_digit d ≡ false = rw e at m in let yes = left_true (is_ascii_digit d) (list_all is_ascii_digit b) y in cc
split_once (d ∷ a) [] r s x y m n e = let no : is_ascii_digit d ≡ false = rw (← e) at n in let yes = left_true (is_ascii_digit d) (list_all is_ascii_digit a) x in cc
split_once (c ∷ a) (d ∷ b) r s x y m n e =
    let head : c ≡ d = ap (λ (t : List ℕ). get_or t 0 0) e in
    let tail : a ++ r ≡ b ++ s = ap (λ (t : List ℕ). drop 1 t) e in
    let both = split_once a b r s (right_true (is_ascii_digit c) (list_all is_ascii_digit a) x) (right_true (is_ascii_digit d) (list_all is_ascii_digit b) y) m n tail in
    (rw (head, both.0) refl, both.1)

no_more : (digits end : List ℕ) → length end ≡ length (digits ++ end) → digits ≡ []
no_more [] end e = refl
no_more (d ∷ digits) end e = absurd (omega (arith, e, length-append (d ∷ digits) end))

-- what the test of the first digit says of the number
pub other_found : (first : ℕ) (others end tail : List ℕ) → HasDigits others end → end ≡ 10 ∷ tail → IsOther first (nat_eq (length end) (length others)) → HasOtherNumber (first ∷ others)
other_found first others end tail h e o = record {
  first = first;
  others = h.digits;
  rest = tail;
  numeral = record {
    digits = both_true (is_ascii_digit first) (list_all is_ascii_digit h.digits) o.digit h.all;
    plain = λ zero. no_more h.digits end (grind (arith, o.plain zero, ap length h.parts));
  };
  other = λ one.
      let first_one : first ≡ 49 = ap (λ (t : List ℕ). get_or t 0 0) one in
      let alone : h.digits ≡ [] = ap (λ (t : List ℕ). drop 1 t) one in
      let same : length others ≡ length end = ap length h.parts ∙ ap (λ (t : List ℕ). length (t ++ end)) alone in
      grind (arith, o.other first_one, same);
  parts = ap (λ (t : List ℕ). first ∷ t) (h.parts ∙ ap (λ (t : List ℕ). h.digits ++ t) e);
}

is_zero : (n : ℕ) → (n ≡ 0) ⊎ (0 < n)
is_zero zero = inl refl
is_zero (suc n) = inr (omega arith)

only_one : (first : ℕ) (others : List ℕ) → first ≡ 49 → length others ≡ 0 → first ∷ others ≡ codes "1"
only_one first [] e none = ap (λ (n : ℕ). n ∷ []) e
only_one first (x ∷ xs) e none = absurd (omega (arith, none))

-- and the other way round
pub other_only : (first : ℕ) (others end : List ℕ) → HasDigits others end → IsNoDigit end → (k : HasOtherNumber (first ∷ others))
    → (end ≡ 10 ∷ k.rest) × IsOther first (nat_eq (length end) (length others))
other_only first others end h stop k =
    let head : first ≡ k.first = ap (λ (t : List ℕ). get_or t 0 0) k.parts in
    let tail : others ≡ k.others ++ (10 ∷ k.rest) = ap (λ (t : List ℕ). drop 1 t) k.parts in
    let digits : list_all is_ascii_digit k.others ≡ true = right_true (is_ascii_digit k.first) (list_all is_ascii_digit k.others) k.numeral.digits in
    let both = split_once h.digits k.others end (10 ∷ k.rest) h.all digits stop refl (sym h.parts ∙ tail) in
    let lengths : length others ≡ length h.digits + length end = ap length h.parts ∙ length-append h.digits end in (
      both.1,
      record {
        digit = rw head (left_true (is_ascii_digit k.first) (list_all is_ascii_digit k.others) k.numeral.digits);
        plain = λ zero.
            let none : length h.digits ≡ 0 = ap length (both.0 ∙ k.numeral.plain (sym head ∙ zero)) in
            grind (arith, none, lengths);
        other = λ one. elim (is_zero (length h.digits)) [
          | inl none ↦ absurd (k.other (only_one k.first k.others (sym head ∙ one) (rw both.0 at none)))
          | inr some ↦ grind (arith, some, lengths)
        ];
      },
    )

-- a text of version 1 has no other version
pub version_one : (text rest : List ℕ) → text ≡ version_line ++ rest → IsOtherVersion text → ⊥
version_one text rest e o =
    let number : o.number ≡ 49 ∷ (10 ∷ rest) = ap (λ (t : List ℕ). drop 19 t) (sym o.parts ∙ e) in
    let k = o.other in
    let head : 49 ≡ k.first = ap (λ (t : List ℕ). get_or t 0 0) (sym number ∙ k.parts) in
    let tail : 10 ∷ rest ≡ k.others ++ (10 ∷ k.rest) = ap (λ (t : List ℕ). drop 1 t) (sym number ∙ k.parts) in
    let digits : list_all is_ascii_digit k.others ≡ true = right_true (is_ascii_digit k.first) (list_all is_ascii_digit k.others) k.numeral.digits in
    let both = split_once [] k.others (10 ∷ rest) (10 ∷ k.rest) refl digits refl refl tail in
    k.other (rw (← head, ← both.0) refl)
