-- A count that is written is read.
use Rattle.std.proofs.Common.{◌≡◌, ℕ, ◌+◌, ◌*◌, ◌/◌, ◌%◌, ◌^◌, ◌<◌, ◌≤◌, List, [], ◌∷◌, ◌++◌, ap, ◌∙◌, append_assoc, arith, length, refl, sym, true}
use Rattle.std.specs.Prelude.{nat_le, ◌&&◌, codes}
use Rattle.std.specs.Fmt.{decimal}
use Rattle.std.proofs.lemmas.Fmt.{decimal_by_steps}
use Rattle.checkpoint_file.proofs.ReadNumbers.{number_from}

-- what is read of the digits of n goes on from n
abbrev pub GoesOn : ℕ → List ℕ → Type 0
GoesOn n ds = n ≤ 2 ^ 60 → (tail : List ℕ) → number_from 0 (ds ++ tail) ≡ number_from n tail

digit_test : (n d : ℕ) → d < 10 → n ≤ 2 ^ 60 → (nat_le 48 (48 + d) && (nat_le (48 + d) 57 && nat_le n (2 ^ 60))) ≡ true
digit_test n d small low = grind arith

one_digit : (n d : ℕ) (tail : List ℕ) → d < 10 → n ≤ 2 ^ 60 → number_from n ((48 + d) ∷ tail) ≡ number_from (10 * n + d) tail
one_digit n d tail small low = rw (digit_test n d small low) (ap (λ (k : ℕ). number_from (10 * n + k) tail) (omega arith))

pub goes_on : (n : ℕ) → n < 2 ^ 64 → GoesOn n (decimal n)
goes_on = decimal_by_steps GoesOn
    (λ n small low tail. one_digit 0 n tail small (omega arith) ∙ ap (λ (k : ℕ). number_from k tail) (omega arith))
    (λ n ds more front low tail.
    ap (number_from 0) (append_assoc ds ((48 + n % 10) ∷ []) tail)
    ∙ front (omega arith) ((48 + n % 10) ∷ tail)
    ∙ one_digit (n / 10) (n % 10) tail (omega arith) (omega arith)
    ∙ ap (λ (k : ℕ). number_from k tail) (omega arith))

-- a count and the end of its line
pub counts : (n : ℕ) (bytes rest : List ℕ) → n ≤ 2 ^ 60 → bytes ≡ decimal n ++ (10 ∷ rest) → number_from 0 bytes ≡ n
counts n bytes rest low e = ap (number_from 0) e ∙ goes_on n (omega arith) low (10 ∷ rest)

-- behind its label
pub labelled : (n : ℕ) (bytes rest : List ℕ) → bytes ≡ codes "count " ++ (decimal n ++ (10 ∷ [])) ++ rest → bytes ≡ codes "count " ++ (decimal n ++ (10 ∷ rest))
labelled n bytes rest e = e ∙ ap (λ (t : List ℕ). codes "count " ++ t) (append_assoc (decimal n) (10 ∷ []) rest)

at_end : (number : ℕ) (left : List ℕ) → length left < 1 → number_from number left ≡ number
at_end number [] short = refl
at_end number (c ∷ cs) short = absurd (omega arith)

-- where nothing is left, the number is read
pub ends : (number n : ℕ) (left bytes rest : List ℕ) → length left < 1 → n ≤ 2 ^ 60 → number_from number left ≡ number_from 0 bytes
    → bytes ≡ decimal n ++ (10 ∷ rest) → number ≡ n
ends number n left bytes rest short low same e = sym (at_end number left short) ∙ same ∙ counts n bytes rest low e
