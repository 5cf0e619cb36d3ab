-- Words by place.
use Rattle.std.proofs.Common.{◌≡◌, ℕ, zero, suc, ◌+◌, ◌*◌, ◌%◌, ◌^◌, ◌<◌, ◌≤◌, Bool, true, false, cond, List, [], ◌∷◌, ◌++◌, length, take, map, set, length-set, count_by, bit_and, bit_or, refl, sym, ◌∙◌, ap, arith, ◌-◌}
use Rattle.std.specs.Simd.Lanes.{mask_l}
use mir.Val.{bool_byte}
use Rattle.std.specs.Int.{bit_at, bit_not, w64}
use Rattle.std.specs.Int.RustNames.{count_ones}
use Rattle.std.proofs.lemmas.Simd.{mask_l-lt, bit_mask_l, ones-mask_l}
use Rattle.std.proofs.lemmas.Nat.{and_mask, one_shl, or_shifted, or_comm, pow_pos, pow-add, and_le_l}
use Rattle.std.proofs.Math.Pow.{pow_mono}
use Rattle.std.proofs.lemmas.Nat.Bits.{same_from_bits, same_from_bits_below, bit_at_set_same, bit_at_set_other, bit_at_clear_same, bit_at_clear_other}
use Rattle.std.proofs.lemmas.List.{get_or-set_same, get_or-set_other, set-set}

pow-suc : (k : ℕ) → 2 ^ suc k ≡ 2 * 2 ^ k
pow-suc k = let e : suc k ≡ 1 + k = omega arith in ap (λ n. 2 ^ n) e ∙ pow-add 2 1 k

times-suc : (k a : ℕ) → 2 ^ suc k * a ≡ 2 * (2 ^ k * a)
times-suc k a = grind (arith, pow-suc k)

mask-append : (ms ns : List Bool) → mask_l (ms ++ ns) ≡ mask_l ms + 2 ^ length ms * mask_l ns
mask-append [] ns = omega arith
mask-append (b ∷ ms) ns = let h : mask_l (ms ++ ns) ≡ mask_l ms + 2 ^ length ms * mask_l ns = mask-append ms ns in omega (arith, h, times-suc (length ms) (mask_l ns))

double-mod : (a n : ℕ) → 0 < n → (0 + 2 * a) % (2 * n) ≡ 0 + 2 * (a % n)
double-mod a n h = grind arith

odd-mod : (a n : ℕ) → 0 < n → (1 + 2 * a) % (2 * n) ≡ 1 + 2 * (a % n)
odd-mod a n h = grind arith

mask-take : (k : ℕ) (ms : List Bool) → mask_l (take k ms) ≡ mask_l ms % 2 ^ k
mask-take zero ms = omega arith
mask-take (suc k) [] = grind arith
mask-take (suc k) (true ∷ ms) = ap (λ n. 1 + 2 * n) (mask-take k ms) ∙ sym (odd-mod (mask_l ms) (2 ^ k) (pow_pos k)) ∙ ap (λ n. (1 + 2 * mask_l ms) % n) (sym (pow-suc k))
mask-take (suc k) (false ∷ ms) = ap (λ n. 0 + 2 * n) (mask-take k ms) ∙ sym (double-mod (mask_l ms) (2 ^ k) (pow_pos k)) ∙ ap (λ n. (0 + 2 * mask_l ms) % n) (sym (pow-suc k))

one-times : (n : ℕ) → 1 * n ≡ n
one-times n = omega arith

swap-sum : (n m : ℕ) → 1 * n + m ≡ m + n * 1
swap-sum n m = omega arith

swap-none : (n m : ℕ) → m ≡ m + n * 0
swap-none n m = omega arith

none-shifted : (f n : ℕ) → f ≡ 0 → f * n % 18446744073709551616 ≡ 0
none-shifted f n e = grind (arith, e)

or-none : (m k : ℕ) → m < 2 ^ k → bit_or m 0 ≡ m
or-none m k lt = let e : 0 * 2 ^ k ≡ 0 = omega arith in let f : 0 * 2 ^ k + m ≡ m = omega arith in or_comm m 0 ∙ ap (λ n. bit_or n m) (sym e) ∙ or_shifted 0 k m lt ∙ f

pub mask-pushed : (ms : List Bool) (b : Bool) (f : ℕ) → length ms < 64 → f ≡ cond b 1 0 → bit_or (mask_l ms) (f * 2 ^ length ms % 18446744073709551616) ≡ mask_l (ms ++ b ∷ [])
mask-pushed ms true f short e =
    ap (λ g. bit_or (mask_l ms) (g * 2 ^ length ms % 18446744073709551616)) e ∙ ap (λ n. bit_or (mask_l ms) n) (one_shl (length ms) 64 short) ∙ (or_comm (mask_l ms) (2 ^ length ms) ∙ ap (λ n. bit_or n (mask_l ms)) (sym (one-times (2 ^ length ms))) ∙ or_shifted 1 (length ms) (mask_l ms) (mask_l-lt ms) ∙ swap-sum (2 ^ length ms) (mask_l ms) ∙ sym (mask-append ms (true ∷ [])))
mask-pushed ms false f short e =
    let none : f * 2 ^ length ms % 18446744073709551616 ≡ 0 = none-shifted f (2 ^ length ms) e in
    ap (λ n. bit_or (mask_l ms) n) none ∙ or-none (mask_l ms) (length ms) (mask_l-lt ms) ∙ swap-none (2 ^ length ms) (mask_l ms) ∙ sym (mask-append ms (false ∷ []))

set-bit : (ms : List Bool) (i j : ℕ) → i < length ms → i < 64 → bit_at (bit_or (mask_l ms) (1 * 2 ^ i % 18446744073709551616)) j ≡ bit_at (mask_l (set ms i true)) j
set-bit ms i j within short = grind (arith, bit_mask_l, bit_at_set_same w64, bit_at_set_other w64, get_or-set_same, get_or-set_other)

pub mask-set : (ms : List Bool) (i : ℕ) → i < length ms → i < 64 → bit_or (mask_l ms) (1 * 2 ^ i % 18446744073709551616) ≡ mask_l (set ms i true)
mask-set ms i within short = same_from_bits _ _ (λ j. set-bit ms i j within short)

pub mask-first : (ms : List Bool) (k : ℕ) → k < 64 → bit_and (mask_l ms) (1 * 2 ^ k % 18446744073709551616 - 1) ≡ mask_l (take k ms)
mask-first ms k short = ap (λ n. bit_and (mask_l ms) (n - 1)) (one_shl k 64 short) ∙ and_mask (mask_l ms) k ∙ sym (mask-take k ms)

map-self : (ms : List Bool) → map (λ m. m) ms ≡ ms
map-self [] = refl
map-self (m ∷ ms) = ap (λ ns. m ∷ ns) (map-self ms)

pub mask-count : (ms : List Bool) → count_ones (mask_l ms) ≡ count_by (λ m. m) ms
mask-count ms = ap (λ ns. count_ones (mask_l ns)) (sym (map-self ms)) ∙ ones-mask_l (λ m. m) ms

pub byte-number : (b : Bool) (f : ℕ) → f ≡ bool_byte b → f ≡ cond b 1 0
byte-number true f e = e
byte-number false f e = e

clear-bit : (ms : List Bool) (i j : ℕ) → i < length ms → i < 64 → j < 64 → bit_at (bit_and (mask_l ms) (bit_not w64 (1 * 2 ^ i % 18446744073709551616))) j ≡ bit_at (mask_l (set ms i false)) j
clear-bit ms i j within short low = grind (arith, bit_mask_l, bit_at_clear_same w64, bit_at_clear_other w64, get_or-set_same, get_or-set_other)

pub mask-clear : (ms : List Bool) (i : ℕ) → i < length ms → i < 64 → mask_l ms < 2 ^ 64 → mask_l (set ms i false) < 2 ^ 64 → bit_and (mask_l ms) (bit_not w64 (1 * 2 ^ i % 18446744073709551616)) ≡ mask_l (set ms i false)
mask-clear ms i within short fits fits' = let le : bit_and (mask_l ms) (bit_not w64 (1 * 2 ^ i % 18446744073709551616)) ≤ mask_l ms = and_le_l _ _ in same_from_bits_below 64 _ _ (omega arith) fits' (λ j low. clear-bit ms i j within short low)

pow-le : (k : ℕ) → k ≤ 64 → 2 ^ k ≤ 18446744073709551616
pow-le k le = pow_mono le

pub mask-assign : (ms : List Bool) (i : ℕ) (b : Bool) (f : ℕ) → i < length ms → i < 64 → f ≡ cond b 1 0 → bit_or (mask_l (set ms i false)) (f * 2 ^ i % 18446744073709551616) ≡ mask_l (set ms i b)
mask-assign ms i true f within short e =
    ap (λ g. bit_or (mask_l (set ms i false)) (g * 2 ^ i % 18446744073709551616)) e ∙ mask-set (set ms i false) i (omega (arith, within, length-set ms i false)) short ∙ ap mask_l (set-set ms i false true)
mask-assign ms i false f within short e =
    let none : 0 * 2 ^ i % 18446744073709551616 ≡ 0 = omega arith in
    ap (λ g. bit_or (mask_l (set ms i false)) (g * 2 ^ i % 18446744073709551616)) e ∙ ap (bit_or (mask_l (set ms i false))) none ∙ or-none (mask_l (set ms i false)) (length (set ms i false)) (mask_l-lt (set ms i false))

pub mask-fits : (ms : List Bool) → length ms ≤ 64 → mask_l ms < 18446744073709551616
mask-fits ms short = omega (arith, mask_l-lt ms, pow-le (length ms) short)
