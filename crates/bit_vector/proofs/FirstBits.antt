-- A word without its first bit.
use mir.Val.{bool_byte}
use Rattle.std.proofs.Common.{◌≡◌, ◌≢◌, ℕ, ◌+◌, ◌-◌, ◌<◌, Bool, true, false, bit_and, refl, sym, ap, ◌∙◌, arith, inl, inr, ◌⊎◌}
use Rattle.std.specs.Int.{bit_at}
use Rattle.std.proofs.lemmas.Nat.Bits.{bit_at_and, bit_at_xor, bit_at-lt, same_from_bits}
use Rattle.bit_vector.proofs.Bits.{xor-low, xor-high}

lt-or : (a b : ℕ) → (a < b) ⊎ (b < a) ⊎ (a ≡ b)
lt-or a b = grind arith

and-self : (x : ℕ) → bit_and x x ≡ x
and-self x = same_from_bits (bit_and x x) x (λ i. bit_at_and x x i ∙ omega arith)

module _ (x k : ℕ) (one : bit_at x k ≡ 1) (clear : (i : ℕ) → i < k → bit_at x i ≡ 0) where
  gone : bit_at (bit_and x (x - 1)) k ≡ 0
  gone = let apart = sym (bit_at_xor x (x - 1) k) ∙ xor-low x k one clear k (omega arith) in bit_at_and x (x - 1) k ∙ omega (arith, apart, one, bit_at-lt (x - 1) k)

  left : (i : ℕ) → i ≢ k → bit_at (bit_and x (x - 1)) i ≡ bit_at x i
  left i other = bit_at_and x (x - 1) i ∙ elim (lt-or i k) [
    | inl low ↦ (let none = clear i low in omega (arith, none))
    | inr (inl high) ↦ (let alike = sym (bit_at_xor x (x - 1) i) ∙ xor-high x k one clear i high in omega (arith, alike, bit_at-lt x i, bit_at-lt (x - 1) i))
    | inr (inr same) ↦ absurd (other same)
  ]

-- the number before has all but the first bit in common with a word, and the word itself all
pub first_stays : (x bit : ℕ) (stays : Bool) → 0 < x → bit ≡ bool_byte stays → stays ≡ true → bit_and x (x - 1 + bit) ≡ x
first_stays x bit stays some is on = let one : bit ≡ 1 = is ∙ ap bool_byte on in let all : x - 1 + bit ≡ x = omega (arith, some, one) in ap (bit_and x) all ∙ and-self x

before : (x bit : ℕ) (stays : Bool) → bit ≡ bool_byte stays → stays ≡ false → x - 1 + bit ≡ x - 1
before x bit stays is off = let none : bit ≡ 0 = is ∙ ap bool_byte off in omega (arith, none)

pub first_goes : (x bit k : ℕ) (stays : Bool) → bit ≡ bool_byte stays → stays ≡ false → bit_at x k ≡ 1 → ((i : ℕ) → i < k → bit_at x i ≡ 0) → bit_at (bit_and x (x - 1 + bit)) k ≡ 0
first_goes x bit k stays is off one clear = ap (λ n. bit_at (bit_and x n) k) (before x bit stays is off) ∙ gone x k one clear

pub others_stay : (x bit k : ℕ) (stays : Bool) → 0 < x → bit ≡ bool_byte stays → bit_at x k ≡ 1 → ((i : ℕ) → i < k → bit_at x i ≡ 0) → (i : ℕ) → i ≢ k → bit_at (bit_and x (x - 1 + bit)) i ≡ bit_at x i
others_stay x bit k true some is one clear i other = ap (λ n. bit_at n i) (first_stays x bit true some is refl)
others_stay x bit k false some is one clear i other = ap (λ n. bit_at (bit_and x n) i) (before x bit false is refl) ∙ left x k one clear i other
