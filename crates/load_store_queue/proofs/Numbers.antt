-- The number that bytes spell, byte by byte.
use Rattle.std.proofs.Common.{◌≡◌, ℕ, zero, suc, ◌+◌, ◌-◌, ◌*◌, ◌%◌, ◌^◌, ◌<◌, ◌≤◌, refl, ap, ◌∙◌, arith}
use Rattle.std.proofs.Math.Nat.{pow-le-pow_right}
use Rattle.paged_memory.specs.Cells.{Cells, byte_at, number_at, IsByteMap}

-- so many bytes spell a number below that power of 256
number_below : (m : Cells) (a n : ℕ) → IsByteMap m → number_at (byte_at m) a n < 256 ^ n
unfolding number_at
number_below m a zero is = omega arith
number_below m a (suc n) is =
    let first : byte_at m a < 256 = is.below a in
    let rest : number_at (byte_at m) (a + 1) n < 256 ^ n = number_below m (a + 1) n is in
    omega (arith, first, rest)

-- no bytes spell 0
pub number_none : (m : Cells) (a size : ℕ) → 0 ≡ number_at (byte_at m) a (size - size)
unfolding number_at
number_none m a size = let none : size - size ≡ 0 = omega arith in rw none refl

-- one more byte in front
pub number_more : (m : Cells) (a size offset byte number : ℕ) → IsByteMap m → 0 < offset → offset ≤ size → size ≤ 8 → byte ≡ byte_at m (a + (offset - 1)) → number ≡ number_at (byte_at m) (a + offset) (size - offset)
    → (number * 256 % 2 ^ 64 + byte) % 2 ^ 64 ≡ number_at (byte_at m) (a + (offset - 1)) (size - (offset - 1))
unfolding number_at
number_more m a size zero byte number is some within few byte_is number_is = absurd (omega arith)
number_more m a size (suc o) byte number is some within few byte_is number_is =
    let n : ℕ = size - suc o in
    let one_less : suc o - 1 ≡ o = omega arith in
    let count : size - o ≡ suc n = omega arith in
    let next : a + suc o ≡ a + o + 1 = omega arith in
    let byte_here : byte ≡ byte_at m (a + o) = rw one_less at byte_is in
    let number_here : number ≡ number_at (byte_at m) (a + o + 1) n = number_is ∙ ap (λ x. number_at (byte_at m) x n) next in
    let small : byte_at m (a + o) < 256 = is.below (a + o) in
    let below : number_at (byte_at m) (a + o + 1) n < 256 ^ n = number_below m (a + o + 1) n is in
    let power : 256 ^ n ≤ 256 ^ 7 = pow-le-pow_right {n = 256} (omega arith) {i = n} {j = 7} (omega arith) in
    rw (one_less, count) (omega (arith, byte_here, number_here, small, below, power))
