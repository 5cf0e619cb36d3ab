-- Numbers and registers that are written are read again.
use Rattle.std.proofs.Common.{◌≡◌, ℕ, suc, zero, ◌<◌, ◌≤◌, ◌^◌, ◌+◌, ◌*◌, ◌==◌, ◌&&◌, Bool, true, false, List, [], ◌∷◌, length, Option, Some, None, Ok, codes, ℤ, pos, negsuc, unsigned_abs, refl, ap, arith, fold, nat_eq, nat_le, ltb, eqb, inl, inr}
use Rattle.std.specs.List.{list_all, starts_with}
use Rattle.std.specs.Char.{digit_value}
use Rattle.std.specs.Fmt.{decimal, signed_decimal, digits}
use Rattle.std.specs.Str.Parse.{AllDigits, IsNumeral, digits_value, digits_value_after}
use Rattle.std.proofs.lemmas.Fmt.{decimal_is_IsNumeral, digits_is_IsNumeral}
use Rattle.std.proofs.lemmas.Bool.{lt-ltb, le-leb, and_parts, cases_Bool, ltb-true, ltb-false, eqb-true}
use Rattle.std.proofs.lemmas.Bool.Decides.{eqb_tells}
use Rattle.std.proofs.lemmas.Int.{ints}
use Rattle.std.proofs.lemmas.Grind.{common_steps}
use Rattle.rv64_asm.specs.Numbers.{numeral, all_digits, magnitude, number_of, in_range, natural}
use Rattle.rv64_asm.specs.Words.{register_of}
use Rattle.rv64_asm.specs.Statements.{immediate, register}
use Rattle.rv64_asm.specs.Shown.{register_text, hex, IsImmediate}
use Rattle.rv64_asm.proofs.Plain.{IsPlain, plain}

all_same : (radix : ℕ) (ds : List ℕ) → AllDigits radix ds → all_digits radix ds ≡ true
all_same radix [] h = refl
all_same radix (d ∷ ds) h = rw (lt-ltb (digit_value d) radix h.0, all_same radix ds h.1) refl

value_same : (radix n : ℕ) (ds : List ℕ) → fold (λ m b. m * radix + digit_value b) n ds ≡ digits_value_after radix n ds
value_same radix n [] = refl
value_same radix n (d ∷ ds) = value_same radix (n * radix + digit_value d) ds

not_empty : (ds : List ℕ) → 0 < length ds → (0 == length ds) ≡ false
not_empty ds h = grind (arith, common_steps)

pub numeral_is : (radix n : ℕ) (ds : List ℕ) → IsNumeral radix ds → digits_value radix ds ≡ n → numeral radix ds ≡ Some n
numeral_is radix n ds h e = rw (not_empty ds h.0, all_same radix ds h.1, value_same radix 0 ds, e) refl

-- no digit is a minus or an x
no_minus : (d : ℕ) → digit_value d < 10 → eqb 45 d ≡ false
no_minus d h = grind (arith, common_steps)

no_letter : (d : ℕ) → digit_value d < 10 → eqb 120 d ≡ false
no_letter d h = grind (arith, common_steps)

not_negative : (ds : List ℕ) → IsNumeral 10 ds → starts_with nat_eq ds (codes "-") ≡ false
not_negative [] h = absurd (omega (arith, h.0))
not_negative (d ∷ ds) h = rw (no_minus d h.1.0) refl

not_hex : (ds : List ℕ) → AllDigits 10 ds → starts_with nat_eq ds (codes "0x") ≡ false
not_hex [] h = refl
not_hex (d ∷ []) h = by (eqb 48 d)
  where
    by : (b : Bool) → (b && false) ≡ false
    by true = refl
    by false = refl
not_hex (d ∷ e ∷ ds) h = rw (no_letter e h.1.0) (by (eqb 48 d))
  where
    by : (b : Bool) → (b && false) ≡ false
    by true = refl
    by false = refl

magnitude_is : (ds : List ℕ) (n : ℕ) → IsNumeral 10 ds → digits_value 10 ds ≡ n → magnitude ds ≡ Some n
unfolding magnitude
magnitude_is ds n h e = rw (not_hex ds h.1) (numeral_is 10 n ds h e)

pub decimal_read : (n : ℕ) → n < 2 ^ 64 → number_of (decimal n) ≡ Some (pos n)
unfolding number_of
decimal_read n small =
    let d = decimal_is_IsNumeral n small in
    rw (not_negative (decimal n) d.0, magnitude_is (decimal n) n d.0 d.1) refl

pub signed_read : (z : ℤ) → unsigned_abs z < 2 ^ 64 → number_of (signed_decimal z) ≡ Some z
unfolding number_of
signed_read (pos n) small = decimal_read n small
signed_read (negsuc n) small =
    let d = decimal_is_IsNumeral (suc n) small in
    rw (magnitude_is (decimal (suc n)) (suc n) d.0 d.1) refl

pub hex_read : (n : ℕ) → n < 2 ^ 64 → number_of (hex n) ≡ Some (pos n)
unfolding number_of magnitude
hex_read n small =
    let d = digits_is_IsNumeral 16 false (omega arith) (omega arith) n (omega arith) in
    rw (numeral_is 16 n (digits 16 false n) d.0 d.1) refl

immediate_in : (z : ℤ) → IsImmediate z → in_range (negsuc 2047) (pos 2047) z ≡ Ok z
immediate_in (pos n) h = let le : n ≤ 2047 = omega (arith, ints, h.1) in rw (le-leb n 2047 le) refl
immediate_in (negsuc n) h = let le : n ≤ 2047 = omega (arith, ints, h.0) in rw (le-leb n 2047 le) refl

pub immediate_small : (z : ℤ) → IsImmediate z → unsigned_abs z < 2 ^ 64
immediate_small (pos n) h = omega (arith, ints, h.1)
immediate_small (negsuc n) h = omega (arith, ints, h.0)

pub immediate_read : (z : ℤ) → IsImmediate z → immediate (signed_decimal z) ≡ Ok z
immediate_read z h = rw (signed_read z (immediate_small z h)) (immediate_in z h)

pub natural_read : (high n : ℕ) (text : List ℕ) → number_of text ≡ Some (pos n) → n ≤ high → natural high text ≡ Ok n
natural_read high n text e le = rw (e, le-leb 0 n (omega arith), le-leb n high le) refl

-- the numbers from k on, m of them
unfoldable pub range : ℕ → ℕ → List ℕ
range k zero = []
range k (suc m) = k ∷ range (k + 1) m

is_read : Option ℕ → ℕ → Bool
is_read None n = false
is_read (Some m) n = m == n

reads_back : ℕ → Bool
reads_back n = is_read (register_of (register_text n)) n

pub within_range : (p : ℕ → Bool) (k m n : ℕ) → list_all p (range k m) ≡ true → k ≤ n → n < k + m → p n ≡ true
unfolding range
within_range p k zero n h low high = absurd (omega arith)
within_range p k (suc m) n h low high =
    let g = and_parts (p k) (list_all p (range (k + 1) m)) h in
    elim (eqb_tells k n) [
      | inl e ↦ rw (← e.1) g.0
      | inr e ↦ within_range p (k + 1) m n g.1 (omega (arith, e.1)) (omega arith)
    ]

first_eight : list_all reads_back (range 0 8) ≡ true
unfolding range reads_back is_read digits
first_eight = refl

second_eight : list_all reads_back (range 8 8) ≡ true
unfolding range reads_back is_read digits
second_eight = refl

third_eight : list_all reads_back (range 16 8) ≡ true
unfolding range reads_back is_read digits
third_eight = refl

fourth_eight : list_all reads_back (range 24 8) ≡ true
unfolding range reads_back is_read digits
fourth_eight = refl

all_read : (n : ℕ) → n < 32 → reads_back n ≡ true
all_read n h = elim (cases_Bool (ltb n 8)) [
  | inl a ↦ within_range reads_back 0 8 n first_eight (omega arith) (omega (arith, ltb-true n 8 a))
  | inr a ↦ elim (cases_Bool (ltb n 16)) [
    | inl b ↦ within_range reads_back 8 8 n second_eight (omega (arith, ltb-false n 8 a)) (omega (arith, ltb-true n 16 b))
    | inr b ↦ elim (cases_Bool (ltb n 24)) [
      | inl c ↦ within_range reads_back 16 8 n third_eight (omega (arith, ltb-false n 16 b)) (omega (arith, ltb-true n 24 c))
      | inr c ↦ within_range reads_back 24 8 n fourth_eight (omega (arith, ltb-false n 24 c)) (omega arith)
    ]
  ]
]

read_is : (o : Option ℕ) (n : ℕ) → is_read o n ≡ true → o ≡ Some n
unfolding is_read
read_is None n h = absurd cc
read_is (Some m) n h = ap Some (eqb-true m n h)

-- a register is read by the name that is written
pub register_read : (n : ℕ) → n < 32 → register (register_text n) ≡ Ok n
unfolding reads_back
register_read n h = rw (read_is (register_of (register_text n)) n (all_read n h)) refl

-- digits are plain
digit_plain : (d : ℕ) → digit_value d < 16 → plain d ≡ true
digit_plain d h = grind (arith, common_steps)

pub digits_plain : (radix : ℕ) (ds : List ℕ) → radix ≤ 16 → AllDigits radix ds → list_all plain ds ≡ true
digits_plain radix [] le h = refl
digits_plain radix (d ∷ ds) le h = rw (digit_plain d (omega (arith, h.0)), digits_plain radix ds le h.1) refl

pub plain_decimal : (n : ℕ) → n < 2 ^ 64 → IsPlain (decimal n)
plain_decimal n small = let d = decimal_is_IsNumeral n small in record { some = d.0.0; bytes = digits_plain 10 (decimal n) (omega arith) d.0.1 }

pub plain_signed : (z : ℤ) → unsigned_abs z < 2 ^ 64 → IsPlain (signed_decimal z)
plain_signed (pos n) small = plain_decimal n small
plain_signed (negsuc n) small = let d = plain_decimal (suc n) small in record { some = omega arith; bytes = rw d.bytes refl }

pub plain_reg : (n : ℕ) → n < 32 → IsPlain (register_text n)
plain_reg n h = let d = plain_decimal n (omega arith) in record { some = omega arith; bytes = rw d.bytes refl }

pub plain_hex : (n : ℕ) → n < 2 ^ 64 → IsPlain (hex n)
plain_hex n small =
    let d = digits_is_IsNumeral 16 false (omega arith) (omega arith) n (omega arith) in
    record { some = omega arith; bytes = rw (digits_plain 16 (digits 16 false n) (omega arith) d.0.1) refl }

-- above the brackets, as digits, letters and minus are
abbrev pub bare : ℕ → Bool
bare b = nat_le 45 b

digit_bare : (d : ℕ) → digit_value d < 16 → bare d ≡ true
digit_bare d h = grind (arith, common_steps)

digits_bare : (ds : List ℕ) → AllDigits 10 ds → list_all bare ds ≡ true
digits_bare [] h = refl
digits_bare (d ∷ ds) h = rw (digit_bare d (omega (arith, h.0)), digits_bare ds h.1) refl

bare_decimal : (n : ℕ) → n < 2 ^ 64 → list_all bare (decimal n) ≡ true
bare_decimal n small = digits_bare (decimal n) (decimal_is_IsNumeral n small).0.1

pub bare_signed : (z : ℤ) → unsigned_abs z < 2 ^ 64 → list_all bare (signed_decimal z) ≡ true
bare_signed (pos n) small = bare_decimal n small
bare_signed (negsuc n) small = rw (bare_decimal (suc n) small) refl

pub bare_reg : (n : ℕ) → n < 32 → list_all bare (register_text n) ≡ true
bare_reg n h = rw (bare_decimal n (omega arith)) refl
