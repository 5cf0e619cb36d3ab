-- Eight hexadecimal digits are read again.
use Rattle.std.proofs.Common.{◌≡◌, ℕ, ◌<◌, ◌^◌, ◌/◌, ◌%◌, ◌==◌, Bool, true, false, List, [], ◌∷◌, ◌++◌, Some, codes, pos, refl, arith}
use Rattle.std.specs.List.{list_all}
use Rattle.std.specs.Char.{digit_value}
use Rattle.std.specs.Fmt.{digits}
use Rattle.std.specs.Str.Parse.{AllDigits, digits_value}
use Rattle.std.proofs.lemmas.Bool.{eqb-true}
use Rattle.rv64_asm.specs.Numbers.{number_of, magnitude, numeral}
use Rattle.rv64_asm.specs.Shown.{digit, hex_word}
use Rattle.rv64_asm.proofs.Plain.{IsPlain}
use Rattle.rv64_asm.proofs.Numerals.{range, within_range, numeral_is, digits_plain}

-- one digit, of that value
is_digit_of : List ℕ → ℕ → Bool
is_digit_of (c ∷ []) n = digit_value c == n
is_digit_of _ n = false

one_digit : ℕ → Bool
one_digit n = is_digit_of (digit n) n

all_digits_one : list_all one_digit (range 0 16) ≡ true
unfolding range one_digit is_digit_of digits
all_digits_one = refl

-- the byte of a digit
pub record IsDigit (text : List ℕ) (n : ℕ) : Type 0 where
  pub byte : ℕ
  pub alone : text ≡ byte ∷ []
  pub value : digit_value byte ≡ n

as_digit : (text : List ℕ) (n : ℕ) → is_digit_of text n ≡ true → IsDigit text n
unfolding is_digit_of
as_digit [] n h = absurd cc
as_digit (c ∷ []) n h = record { byte = c; alone = refl; value = eqb-true (digit_value c) n h }
as_digit (c ∷ d ∷ more) n h = absurd cc

digit_is : (n : ℕ) → n < 16 → IsDigit (digit n) n
unfolding one_digit
digit_is n h = as_digit (digit n) n (within_range one_digit 0 16 n all_digits_one (omega arith) (omega arith))

-- the bytes of a word's digits
pub record Digits (w : ℕ) : Type 0 where
  pub a : ℕ
  pub b : ℕ
  pub c : ℕ
  pub d : ℕ
  pub e : ℕ
  pub f : ℕ
  pub g : ℕ
  pub h : ℕ
  pub text : hex_word w ≡ a ∷ b ∷ c ∷ d ∷ e ∷ f ∷ g ∷ h ∷ []
  pub all : AllDigits 16 (a ∷ b ∷ c ∷ d ∷ e ∷ f ∷ g ∷ h ∷ [])
  pub value : w < 2 ^ 32 → digits_value 16 (a ∷ b ∷ c ∷ d ∷ e ∷ f ∷ g ∷ h ∷ []) ≡ w

digits_of : (w : ℕ) → Digits w
digits_of w =
    let a = digit_is (w / 2 ^ 28 % 16) (omega arith) in
    let b = digit_is (w / 2 ^ 24 % 16) (omega arith) in
    let c = digit_is (w / 2 ^ 20 % 16) (omega arith) in
    let d = digit_is (w / 2 ^ 16 % 16) (omega arith) in
    let e = digit_is (w / 2 ^ 12 % 16) (omega arith) in
    let f = digit_is (w / 2 ^ 8 % 16) (omega arith) in
    let g = digit_is (w / 2 ^ 4 % 16) (omega arith) in
    let h = digit_is (w % 16) (omega arith) in
    record {
      a = a.byte;
      b = b.byte;
      c = c.byte;
      d = d.byte;
      e = e.byte;
      f = f.byte;
      g = g.byte;
      h = h.byte;
      text = rw (a.alone, b.alone, c.alone, d.alone, e.alone, f.alone, g.alone, h.alone) refl;
      all = (omega (arith, a.value), (omega (arith, b.value), (omega (arith, c.value), (omega (arith, d.value), (omega (arith, e.value), (omega (arith, f.value), (omega (arith, g.value), (omega (arith, h.value), tt))))))));
      value = λ fits. omega (arith, a.value, b.value, c.value, d.value, e.value, f.value, g.value, h.value);
    }

pub hex_word_read : (w : ℕ) → w < 2 ^ 32 → number_of (codes "0x" ++ hex_word w) ≡ Some (pos w)
unfolding number_of magnitude
hex_word_read w fits =
    let d = digits_of w in
    let n : numeral 16 (hex_word w) ≡ Some w = rw d.text (numeral_is 16 w (d.a ∷ d.b ∷ d.c ∷ d.d ∷ d.e ∷ d.f ∷ d.g ∷ d.h ∷ []) (omega arith, d.all) (d.value fits)) in
    rw n refl

pub plain_hex_word : (w : ℕ) → IsPlain (codes "0x" ++ hex_word w)
plain_hex_word w =
    let d = digits_of w in
    record { some = omega arith; bytes = rw (d.text, digits_plain 16 (d.a ∷ d.b ∷ d.c ∷ d.d ∷ d.e ∷ d.f ∷ d.g ∷ d.h ∷ []) (omega arith) d.all) refl }
