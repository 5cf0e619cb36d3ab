-- Numbers and their bytes.
use Rattle.std.proofs.Common.{◌≡◌, ℕ, zero, suc, ◌+◌, ◌*◌, ◌/◌, ◌%◌, ◌^◌, ◌<◌, ◌≤◌, refl, sym, ap, ◌∙◌, arith}
use Rattle.std.proofs.lemmas.Nat.{pow-add}
use Rattle.std.proofs.Math.Nat.{pow-succ', div-one, pow-le-pow_right, mod-eq_of_lt, div-eq_of_lt}
use Rattle.std.proofs.Math.Pow.{pow-lt}
use Rattle.std.proofs.Math.Arith.{mod-mul}
use Rattle.std.specs.Int.{byte_at as byte_of_number}

pub pow_256_pos : (k : ℕ) → 0 < 256 ^ k
pow_256_pos zero = omega arith
pow_256_pos (suc k) = omega (arith, pow_256_pos k, pow-succ' 256 k)

-- bytes as bits
pub pow_256 : (k : ℕ) → 256 ^ k ≡ 2 ^ (8 * k)
pow_256 zero = omega arith
pow_256 (suc k) =
    let up : 8 * suc k ≡ 8 + 8 * k = omega arith in
    rw (up, pow-add 2 8 (8 * k)) (omega (arith, pow_256 k, pow-succ' 256 k))

-- the byte at a place is what its division leaves
pub byte_is : (k v : ℕ) → byte_of_number k v ≡ v / 256 ^ k % 256
byte_is zero v = ap (λ (n : ℕ). n % 256) (sym (div-one v))
byte_is (suc k) v = refl

-- one byte, and the bytes above it
pub byte_split : (u k : ℕ) → u % 256 + 256 * (u / 256 % 256 ^ k) ≡ u % 256 ^ suc k
byte_split u k =
    let split : u % (256 ^ k * 256) ≡ (u / 256 % 256 ^ k) * 256 + u % 256 = mod-mul u (pow_256_pos k) (omega arith) in
    let turn : 256 ^ suc k ≡ 256 ^ k * 256 = omega (arith, pow-succ' 256 k) in
    rw turn (omega (arith, split))

-- ---- of 64 bits

pub lowest_of_few : (v count : ℕ) → count < 8 → v % (1 * 2 ^ (8 * count) % 2 ^ 64) ≡ v % 256 ^ count
lowest_of_few v count few =
    let bits : 8 * count < 64 = omega arith in
    let fits : 2 ^ (8 * count) < 2 ^ 64 = pow-lt bits in
    let one : 1 * 2 ^ (8 * count) ≡ 2 ^ (8 * count) = omega arith in
    ap (λ (m : ℕ). v % m) (ap (λ (m : ℕ). m % 2 ^ 64) one ∙ mod-eq_of_lt fits ∙ sym (pow_256 count))

eight_bytes : (count : ℕ) → 8 ≤ count → 2 ^ 64 ≤ 256 ^ count
eight_bytes count many =
    let few : 256 ^ 8 ≤ 256 ^ count = pow-le-pow_right (omega arith) many in
    omega (arith, few)

pub lowest_of_many : (v count : ℕ) → v < 2 ^ 64 → 8 ≤ count → v ≡ v % 256 ^ count
lowest_of_many v count fits many = sym (mod-eq_of_lt (omega (arith, eight_bytes count many)))

pub above_few : (v count : ℕ) → v / 2 ^ (8 * count) ≡ v / 256 ^ count
above_few v count = ap (λ (m : ℕ). v / m) (sym (pow_256 count))

pub above_many : (v count : ℕ) → v < 2 ^ 64 → 8 ≤ count → 0 ≡ v / 256 ^ count
above_many v count fits many = sym (div-eq_of_lt (omega (arith, eight_bytes count many)))
