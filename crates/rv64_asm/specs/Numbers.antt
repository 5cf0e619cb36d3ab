-- Numbers of an operand.
use Rattle.std.specs.Prelude.{ℕ, ℤ, pos, negsuc, neg_ℤ, ◌-◌, ◌+◌, ◌*◌, ◌==◌, ◌&&◌, Bool, List, length, nat_lt, if◌then◌else◌, Option, Some, None, option_map, Result, Ok, Err, nat_eq, codes, drop, int_le, unsigned_abs}
use Rattle.std.specs.List.{list_all, fold, starts_with}
use Rattle.std.specs.Option.{ok_or}
use Rattle.std.specs.Char.{digit_value}
use Rattle.rv64_asm.specs.declared.fault.LineFault.{LineFault}
use Rattle.rv64_asm.specs.declared.fault.LineFault.TheVariants.{OperandForm, OutOfRange}

-- each byte is a digit of the radix
abbrev pub all_digits : ℕ → List ℕ → Bool
all_digits radix = list_all (λ b. nat_lt (digit_value b) radix)

-- the number that digits write, the highest first
abbrev pub value_of : ℕ → List ℕ → ℕ
value_of radix = fold (λ n b. n * radix + digit_value b) 0

-- the number that one digit or more write
abbrev pub numeral : ℕ → List ℕ → Option ℕ
numeral radix ds = if 0 == length ds then None else (if all_digits radix ds then Some (value_of radix ds) else None)

-- decimal, or hexadecimal behind 0x
unfoldable pub magnitude : List ℕ → Option ℕ
magnitude bs = if starts_with nat_eq bs (codes "0x") then numeral 16 (drop 2 bs) else numeral 10 bs

-- with an optional minus
unfoldable pub number_of : List ℕ → Option ℤ
number_of bs = if starts_with nat_eq bs (codes "-") then option_map (λ n. neg_ℤ (pos n)) (magnitude (drop 1 bs)) else option_map pos (magnitude bs)

infixl 10 ◌>>=◌
abbrev pub ◌>>=◌ : {A B : Type 0} → Result A LineFault → (A → Result B LineFault) → Result B LineFault
(Ok x) >>= f = f x
(Err e) >>= f = Err e

-- the number, unless it is below low or above high
abbrev pub in_range : ℤ → ℤ → ℤ → Result ℤ LineFault
in_range low high z = if int_le low z && int_le z high then Ok z else Err OutOfRange

-- a number in a range: its form comes before its range
abbrev pub number_in : ℤ → ℤ → List ℕ → Result ℤ LineFault
number_in low high bs = ok_or (number_of bs) OperandForm >>= in_range low high

-- a number from 0 up
abbrev pub natural : ℕ → List ℕ → Result ℕ LineFault
natural high text = number_in (pos 0) (pos high) text >>= λ z. Ok (unsigned_abs z)

-- the bits of a number, where high is the number of all bits set: two's complement below zero
abbrev pub wrapped : ℕ → ℤ → ℕ
wrapped high (pos n) = n
wrapped high (negsuc n) = high - n

-- the bits of a number in a range
abbrev pub number_between : ℤ → ℕ → List ℕ → Result ℕ LineFault
number_between low high text = number_in low (pos high) text >>= λ z. Ok (wrapped high z)
