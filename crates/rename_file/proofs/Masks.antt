-- One of two numbers, by a mask.
use Rattle.std.proofs.Common.{◌≡◌, ℕ, ◌+◌, ◌-◌, ◌%◌, ◌<◌, ◌∙◌, arith}
use Rattle.std.specs.Int.Bits.{bit_and, bit_or, and_zero_r, or_zero_l, or_zero_r}
use Rattle.std.proofs.lemmas.Nat.{and_mask}

all_bits : (n : ℕ) → n < 18446744073709551616 → bit_and n 18446744073709551615 ≡ n
all_bits n lt = and_mask n 64 ∙ omega (arith, lt)

-- all bits where k is 1, and none where it is 0
abbrev pub mask : ℕ → ℕ
mask k = (0 + (18446744073709551616 - k)) % 18446744073709551616

-- a where k is 1, and b where it is 0
abbrev pub by_mask : ℕ → ℕ → ℕ → ℕ
by_mask k a b = bit_or (bit_and a (mask k)) (bit_and b (18446744073709551615 - mask k))

pub by_mask_one : (k a b : ℕ) → a < 18446744073709551616 → k ≡ 1 → by_mask k a b ≡ a
by_mask_one k a b lt one = rw (one, and_zero_r b, or_zero_r (bit_and a 18446744073709551615)) (all_bits a lt)

pub by_mask_none : (k a b : ℕ) → b < 18446744073709551616 → k ≡ 0 → by_mask k a b ≡ b
by_mask_none k a b lt none = rw (none, and_zero_r a, or_zero_l (bit_and b 18446744073709551615)) (all_bits b lt)
