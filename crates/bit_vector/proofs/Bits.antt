-- Bits of words.
use Rattle.std.proofs.Common.{◌≡◌, ℕ, suc, ◌+◌, ◌-◌, ◌*◌, ◌/◌, ◌%◌, ◌^◌, ◌<◌, ◌≤◌, true, max, min, false, not, nat_eq, bit_and, bit_or, sym, ◌∙◌, ap, arith, inl, inr, ◌⊎◌}
use Rattle.std.specs.Int.{bit_at, w64, rotate_right, leading_zeros, trailing_zeros}
use Rattle.std.specs.Int.Bits.{bit_xor}
use Rattle.std.specs.Prelude.{nat_lt}
use Rattle.std.proofs.Math.Nat.{div-eq_of_lt, lt-div-mul-add}
use Rattle.std.proofs.lemmas.Bool.{ltb-true, ltb-false, le-ltb}
use Rattle.std.proofs.lemmas.Bool.Decides.{nat_tests}
use Rattle.std.proofs.lemmas.Nat.{pow_below, shr-shr, shr_split, shr_le, pow_pos, pow-add, leading_top}
use Rattle.std.proofs.lemmas.Nat.Bits.{and_pow, bit_at_and, bit_at_not, bit_at_or, bit_at_xor, bit_at-lt, bit_at_above, bit_at-zero, bit_at-suc, bit_at_lowest, bit_at_ones, bit_at_cat_low, bit_at_cat_high, bit_at-trailing_zeros, same_from_bits, same_from_bits_below}

pub bit-kept : (a b j : ℕ) → bit_at a j ≡ 1 → bit_at (bit_or a b) j ≡ 1
bit-kept a b j h = let m : bit_at (bit_or a b) j ≡ max (bit_at a j) (bit_at b j) = bit_at_or a b j in let lt : bit_at b j < 2 = bit_at-lt b j in omega arith

-- the bits of a number shifted down
pub bit-down : (n k i : ℕ) → bit_at (n / 2 ^ k) i ≡ bit_at n (k + i)
bit-down n k i = ap (λ m. m % 2) (shr-shr n k i)

-- of one shifted up within 64 bits
bit-low : (m i : ℕ) → i < 64 → bit_at (m % 18446744073709551616) i ≡ bit_at m i
bit-low m i low = let e : m / 2 ^ 64 * 2 ^ 64 + m % 2 ^ 64 ≡ m = shr_split m 64 in sym (bit_at_cat_low (m / 2 ^ 64) 64 (m % 2 ^ 64) i low) ∙ ap (λ n. bit_at n i) e

bit-up-low : (n k i : ℕ) → i < k → bit_at (n * 2 ^ k) i ≡ 0
bit-up-low n k i low = let e : n * 2 ^ k + 0 ≡ n * 2 ^ k = omega arith in ap (λ m. bit_at m i) (sym e) ∙ bit_at_cat_low n k 0 i low ∙ bit_at-zero i

bit-up-high : (n k i : ℕ) → k ≤ i → bit_at (n * 2 ^ k) i ≡ bit_at n (i - k)
bit-up-high n k i high = let e : n * 2 ^ k + 0 ≡ n * 2 ^ k = omega arith in ap (λ m. bit_at m i) (sym e) ∙ bit_at_cat_high n k 0 i (pow_pos k) high

pub lt-or : (a b : ℕ) → (a < b) ⊎ (b ≤ a)
lt-or a b = grind arith

-- a place from which on no bit is set, or the first that is
pub trailing-clear : (word from j : ℕ) → word < 18446744073709551616 → 0 < word / 2 ^ from → from ≤ j → j < from + trailing_zeros w64 (word / 2 ^ from) → bit_at word j ≡ 0
trailing-clear word from j fits some after below =
    let small : word / 2 ^ from ≤ word = shr_le word from in
    let at : from + (j - from) ≡ j = omega arith in
    ap (λ k. bit_at word k) (sym at) ∙ sym (bit-down word from (j - from)) ∙ (bit_at-trailing_zeros w64 (word / 2 ^ from) some (omega arith)).2 (j - from) (omega arith)

pub trailing-within : (word from : ℕ) → word < 18446744073709551616 → 0 < word / 2 ^ from → from + trailing_zeros w64 (word / 2 ^ from) < 64
trailing-within word from fits some =
    let small : word / 2 ^ from ≤ word = shr_le word from in
    let one : bit_at word (from + trailing_zeros w64 (word / 2 ^ from)) ≡ 1 = sym (bit-down word from (trailing_zeros w64 (word / 2 ^ from))) ∙ (bit_at-trailing_zeros w64 (word / 2 ^ from) some (omega arith)).1 in
    elim (lt-or (from + trailing_zeros w64 (word / 2 ^ from)) 64) [
      | inl below ↦ below
      | inr above ↦ absurd (no-one (sym one ∙ bit_at_above word 64 (from + trailing_zeros w64 (word / 2 ^ from)) fits above))
    ]
  where
    no-one : ◌≡◌ {A = ℕ} 1 0 → ⊥
    no-one e = omega (arith, e)

pub trailing-set : (word from : ℕ) → word < 18446744073709551616 → 0 < word / 2 ^ from → bit_at word (from + trailing_zeros w64 (word / 2 ^ from)) ≡ 1
trailing-set word from fits some =
    let small : word / 2 ^ from ≤ word = shr_le word from in
    sym (bit-down word from (trailing_zeros w64 (word / 2 ^ from))) ∙ (bit_at-trailing_zeros w64 (word / 2 ^ from) some (omega arith)).1

pub none-from : (word from j : ℕ) → word / 2 ^ from ≡ 0 → from ≤ j → bit_at word j ≡ 0
none-from word from j none after = let at : from + (j - from) ≡ j = omega arith in
    ap (λ k. bit_at word k) (sym at) ∙ sym (bit-down word from (j - from)) ∙ ap (λ n. bit_at n (j - from)) none ∙ bit_at-zero (j - from)

max-self : (m : ℕ) → max m m ≡ m
max-self m = omega arith

max-left : (m : ℕ) → max m 0 ≡ m
max-left m = omega arith

max-right : (m : ℕ) → max 0 m ≡ m
max-right m = omega arith

turned-cases : (word base i : ℕ) → word < 18446744073709551616 → base < 64 → i < 64 → (base < 1) ⊎ (1 ≤ base) → (base + i < 64) ⊎ (64 ≤ base + i) →
    max (bit_at word (base % 64 + i)) (bit_at (word * 2 ^ ((64 - base % 64) % 64)) i) ≡ bit_at word ((base + i) % 64)
turned-cases word base i fits low within (inl none) _ =
    let p : base % 64 + i ≡ (base + i) % 64 = omega arith in let k : (64 - base % 64) % 64 ≡ 0 = omega arith in let q : i - 0 ≡ (base + i) % 64 = omega arith in
    ap (λ s. max (bit_at word s) (bit_at (word * 2 ^ ((64 - base % 64) % 64)) i)) p ∙ ap (λ k. max (bit_at word ((base + i) % 64)) (bit_at (word * 2 ^ k) i)) k
    ∙ ap (λ m. max (bit_at word ((base + i) % 64)) m) (bit-up-high word 0 i (omega arith) ∙ ap (λ s. bit_at word s) q) ∙ max-self (bit_at word ((base + i) % 64))
turned-cases word base i fits low within (inr some) (inl short) =
    let p : base % 64 + i ≡ (base + i) % 64 = omega arith in
    ap (λ s. max (bit_at word s) (bit_at (word * 2 ^ ((64 - base % 64) % 64)) i)) p ∙ ap (λ m. max (bit_at word ((base + i) % 64)) m) (bit-up-low word ((64 - base % 64) % 64) i (omega arith)) ∙ max-left (bit_at word ((base + i) % 64))
turned-cases word base i fits low within (inr some) (inr long) =
    let q : i - ((64 - base % 64) % 64) ≡ (base + i) % 64 = omega arith in
    ap (λ m. max m (bit_at (word * 2 ^ ((64 - base % 64) % 64)) i)) (bit_at_above word 64 (base % 64 + i) fits (omega arith))
    ∙ ap (λ m. max 0 m) (bit-up-high word ((64 - base % 64) % 64) i (omega arith) ∙ ap (λ s. bit_at word s) q) ∙ max-right (bit_at word ((base + i) % 64))

-- a word turned by a base has the bit of a slot at its place
pub bit-turned : (word base i : ℕ) → word < 18446744073709551616 → base < 64 → i < 64 → bit_at (rotate_right w64 word base) i ≡ bit_at word ((base + i) % 64)
bit-turned word base i fits low within =
    bit_at_or (word / 2 ^ (base % 64)) (word * 2 ^ ((64 - base % 64) % 64) % 18446744073709551616) i
    ∙ ap (λ m. max m (bit_at (word * 2 ^ ((64 - base % 64) % 64) % 18446744073709551616) i)) (bit-down word (base % 64) i)
    ∙ ap (λ m. max (bit_at word (base % 64 + i)) m) (bit-low (word * 2 ^ ((64 - base % 64) % 64)) i within)
    ∙ turned-cases word base i fits low within (lt-or base 1) (lt-or (base + i) 64)

-- ---- a word and the one before it

no-bit : ◌≡◌ {A = ℕ} 0 1 → ⊥
no-bit e = omega (arith, e)

-- where no bit is set below a place, the word is a multiple
low-none : (x k : ℕ) → ((i : ℕ) → i < k → bit_at x i ≡ 0) → x % 2 ^ k ≡ 0
low-none x k clear =
    let split : x / 2 ^ k * 2 ^ k + x % 2 ^ k ≡ x = shr_split x k in
    let pos : 0 < 2 ^ k = pow_pos k in
    same_from_bits_below k (x % 2 ^ k) 0 (omega (arith, pos)) pos (λ i lt. sym (bit_at_cat_low (x / 2 ^ k) k (x % 2 ^ k) i lt) ∙ ap (λ n. bit_at n i) split ∙ clear i lt ∙ sym (bit_at-zero i))

one-more : (a n : ℕ) → (a + 1) * n ≡ a * n + n
one-more a n = omega arith

before-multiple : (q n : ℕ) → 0 < q → 0 < n → q * n + 0 - 1 ≡ (q - 1) * n + (n - 1)
before-multiple q n some pos =
    let at : q ≡ q - 1 + 1 = omega (arith, some) in
    let all : q * n ≡ (q - 1) * n + n = ap (λ a. a * n) at ∙ one-more (q - 1) n in
    omega (arith, all, pos)

odd-halves : (q i : ℕ) → q % 2 ≡ 1 → 0 < i → bit_at q i ≡ bit_at (q - 1) i
odd-halves q i odd some =
    let at : i ≡ suc (i - 1) = omega arith in
    let half : q / 2 ≡ (q - 1) / 2 = omega (arith, odd) in
    ap (bit_at q) at ∙ bit_at-suc q (i - 1) ∙ ap (λ n. bit_at n (i - 1)) half ∙ sym (bit_at-suc (q - 1) (i - 1)) ∙ ap (bit_at (q - 1)) (sym at)

module _ (x k : ℕ) (one : bit_at x k ≡ 1) (clear : (i : ℕ) → i < k → bit_at x i ≡ 0) where
  abbrev q : ℕ
  q = x / 2 ^ k

  some : 0 < q
  some = let h : q % 2 ≡ 1 = one in omega (arith, h)

  form : x ≡ q * 2 ^ k + 0
  form = let split : x / 2 ^ k * 2 ^ k + x % 2 ^ k ≡ x = shr_split x k in let none : x % 2 ^ k ≡ 0 = low-none x k clear in omega (arith, split, none)

  before : x - 1 ≡ (q - 1) * 2 ^ k + (2 ^ k - 1)
  before = ap (λ n. n - 1) form ∙ before-multiple q (2 ^ k) some (pow_pos k)

  high : (i : ℕ) → k ≤ i → bit_at x i ≡ bit_at q (i - k)
  high i le = ap (λ n. bit_at n i) form ∙ bit_at_cat_high q k 0 i (pow_pos k) le

  high-before : (i : ℕ) → k ≤ i → bit_at (x - 1) i ≡ bit_at (q - 1) (i - k)
  high-before i le = ap (λ n. bit_at n i) before ∙ bit_at_cat_high (q - 1) k (2 ^ k - 1) i (let pos : 0 < 2 ^ k = pow_pos k in omega (arith, pos)) le

  pub xor-low : (i : ℕ) → i ≤ k → bit_at (bit_xor x (x - 1)) i ≡ 1
  xor-low i le = bit_at_xor x (x - 1) i ∙ elim (lt-or i k) [
    | inl lt ↦ (let a = clear i lt in let b : bit_at (x - 1) i ≡ 1 = ap (λ n. bit_at n i) before ∙ bit_at_cat_low (q - 1) k (2 ^ k - 1) i lt ∙ bit_at_ones k i lt in omega (arith, a, b))
    | inr ge ↦ (
        let same : i - k ≡ 0 = omega (arith, le, ge) in
        let a : bit_at x i ≡ q % 2 = high i ge ∙ ap (bit_at q) same ∙ bit_at_lowest q in
        let b : bit_at (x - 1) i ≡ (q - 1) % 2 = high-before i ge ∙ ap (bit_at (q - 1)) same ∙ bit_at_lowest (q - 1) in
        let odd : q % 2 ≡ 1 = one in
        omega (arith, a, b, odd))
  ]

  pub xor-high : (i : ℕ) → k < i → bit_at (bit_xor x (x - 1)) i ≡ 0
  xor-high i gt =
      let same : bit_at x i ≡ bit_at (x - 1) i = high i (omega (arith, gt)) ∙ odd-halves q (i - k) one (omega (arith, gt)) ∙ sym (high-before i (omega (arith, gt))) in
      bit_at_xor x (x - 1) i ∙ omega (arith, same)

-- the bits up to the lowest, by the number before
pub up-set : (x y i : ℕ) → x < 18446744073709551616 → y ≡ (x + 18446744073709551615) % 18446744073709551616 → i < 64 → ((j : ℕ) → j < i → bit_at x j ≡ 0) → bit_at (bit_xor x y) i ≡ 1
up-set x y i fits is low clear = elim (lt-or 0 x) [
  | inr none ↦ (
      let zero_ : x ≡ 0 = omega (arith, none) in
      let all : y ≡ 2 ^ 64 - 1 = omega (arith, is, zero_) in
      let a : bit_at x i ≡ 0 = ap (λ n. bit_at n i) zero_ ∙ bit_at-zero i in
      let b : bit_at y i ≡ 1 = ap (λ n. bit_at n i) all ∙ bit_at_ones 64 i low in
      bit_at_xor x y i ∙ omega (arith, a, b))
  | inl some ↦ (
      let less : y ≡ x - 1 = omega (arith, is, some, fits) in
      let t = bit_at-trailing_zeros w64 x some (omega (arith, fits)) in
      ap (λ n. bit_at (bit_xor x n) i) less ∙ xor-low x (trailing_zeros w64 x) t.1 t.2 i (elim (lt-or (trailing_zeros w64 x) i) [
        | inl lt ↦ absurd (no-bit (sym (clear (trailing_zeros w64 x) lt) ∙ t.1))
        | inr ge ↦ ge
      ]))
]

pub up-clear : (x y i j : ℕ) → x < 18446744073709551616 → y ≡ (x + 18446744073709551615) % 18446744073709551616 → bit_at (bit_xor x y) i ≡ 1 → j < i → bit_at x j ≡ 0
up-clear x y i j fits is set_ lt = elim (lt-or 0 x) [
  | inr none ↦ (let zero_ : x ≡ 0 = omega (arith, none) in ap (λ n. bit_at n j) zero_ ∙ bit_at-zero j)
  | inl some ↦ (
      let less : y ≡ x - 1 = omega (arith, is, some, fits) in
      let t = bit_at-trailing_zeros w64 x some (omega (arith, fits)) in
      elim (lt-or (trailing_zeros w64 x) i) [
        | inl past ↦ absurd (no-bit (sym (xor-high x (trailing_zeros w64 x) t.1 t.2 i past) ∙ ap (λ n. bit_at (bit_xor x n) i) (sym less) ∙ set_))
        | inr ge ↦ t.2 j (omega (arith, lt, ge))
      ])
]

-- the lowest place
pub lowest-clear : (x i : ℕ) → x < 18446744073709551616 → i < trailing_zeros w64 x → bit_at x i ≡ 0
lowest-clear x i fits lt = elim (lt-or 0 x) [
  | inr none ↦ (let zero_ : x ≡ 0 = omega (arith, none) in ap (λ n. bit_at n i) zero_ ∙ bit_at-zero i)
  | inl some ↦ (bit_at-trailing_zeros w64 x some (omega (arith, fits))).2 i lt
]

pub lowest-set : (x : ℕ) → x < 18446744073709551616 → trailing_zeros w64 x < 64 → bit_at x (trailing_zeros w64 x) ≡ 1
unfolding lib.Count.count_trailing_zeros
lowest-set x fits within = elim (lt-or 0 x) [
  | inr none ↦ (
      let zero_ : x ≡ 0 = omega (arith, none) in
      let all : trailing_zeros w64 x ≡ 64 = ap (trailing_zeros w64) zero_ in
      omega (arith, all, within))
  | inl some ↦ (bit_at-trailing_zeros w64 x some (omega (arith, fits))).1
]

-- ---- the last bit below a place

-- the word shifted up, so that the place right below one is the top bit
abbrev up : ℕ → ℕ → ℕ
up word end = word * 2 ^ (64 - end) % 18446744073709551616

up-bit : (word end i : ℕ) → end ≤ 64 → i < end → bit_at (up word end) (64 - end + i) ≡ bit_at word i
up-bit word end i few below =
    let at : 64 - end + i - (64 - end) ≡ i = omega arith in
    bit-low (word * 2 ^ (64 - end)) (64 - end + i) (omega arith) ∙ bit-up-high word (64 - end) (64 - end + i) (omega arith) ∙ ap (bit_at word) at

up-none : (word end i : ℕ) → end ≤ 64 → 0 < end → i < 64 - end → bit_at (up word end) i ≡ 0
up-none word end i few room low = bit-low (word * 2 ^ (64 - end)) i (omega arith) ∙ bit-up-low word (64 - end) i low

-- the bit of a number between two powers
top-bit : (a j : ℕ) → 2 ^ j ≤ a → a < 2 ^ suc j → bit_at a j ≡ 1
top-bit a j least most =
    let next : suc j ≡ 1 + j = omega arith in
    let twice : 2 ^ suc j ≡ 2 * 2 ^ j = ap (λ n. 2 ^ n) next ∙ pow-add 2 1 j in
    let cut : 1 * 2 ^ j + (a - 2 ^ j) ≡ a = omega (arith, least) in
    let here : j - j ≡ 0 = omega arith in
    ap (λ n. bit_at n j) (sym cut) ∙ bit_at_cat_high 1 j (a - 2 ^ j) j (omega (arith, least, most, twice)) (omega arith) ∙ ap (bit_at 1) here

pub last-none : (word end i : ℕ) → end ≤ 64 → up word end ≡ 0 → i < end → bit_at word i ≡ 0
last-none word end i few none below = sym (up-bit word end i few below) ∙ ap (λ n. bit_at n (64 - end + i)) none ∙ bit_at-zero (64 - end + i)

module _ (word end : ℕ) (few : end ≤ 64) (room : 0 < end) (some : 0 < up word end) where
  top : (j : ℕ) × (leading_zeros w64 (up word end) + suc j ≡ 64) × (2 ^ j ≤ up word end) × (up word end < 2 ^ suc j)
  top = leading_top 64 (up word end) some (omega arith)

  abbrev skipped : ℕ
  skipped = leading_zeros w64 (up word end)

  top-one : bit_at (up word end) top.0 ≡ 1
  top-one = top-bit (up word end) top.0 top.2 top.3

  top-high : 64 - end ≤ top.0
  top-high = elim (lt-or top.0 (64 - end)) [
    | inl low ↦ absurd (no-bit (sym (up-none word end top.0 few room low) ∙ top-one))
    | inr ge ↦ ge
  ]

  pub last-within : skipped + 1 ≤ end
  last-within = omega (arith, top.1, top-high, few)

  pub last-set : bit_at word (end - 1 - skipped) ≡ 1
  last-set =
      let at : 64 - end + (end - 1 - skipped) ≡ top.0 = omega (arith, top.1, top-high, few) in
      sym (up-bit word end (end - 1 - skipped) few (omega (arith, room))) ∙ ap (bit_at (up word end)) at ∙ top-one

  pub last-clear : (i : ℕ) → end - 1 - skipped < i → i < end → bit_at word i ≡ 0
  last-clear i after below = sym (up-bit word end i few below) ∙ bit_at_above (up word end) (suc top.0) (64 - end + i) top.3 (omega (arith, top.1, top-high, few, after))

-- ---- bits of two words

pub both-set : (a b i : ℕ) → bit_at a i ≡ 1 → bit_at b i ≡ 1 → bit_at (bit_and a b) i ≡ 1
both-set a b i p q = bit_at_and a b i ∙ omega (arith, p, q)

pub both-first : (a b i : ℕ) → bit_at (bit_and a b) i ≡ 1 → bit_at a i ≡ 1
both-first a b i h = let m : min (bit_at a i) (bit_at b i) ≡ 1 = sym (bit_at_and a b i) ∙ h in omega (arith, m, bit_at-lt a i)

pub both-second : (a b i : ℕ) → bit_at (bit_and a b) i ≡ 1 → bit_at b i ≡ 1
both-second a b i h = let m : min (bit_at a i) (bit_at b i) ≡ 1 = sym (bit_at_and a b i) ∙ h in omega (arith, m, bit_at-lt b i)

-- the bits of a word that another lacks
lacked : (a b i : ℕ) → b < 18446744073709551616 → i < 64 → bit_at (bit_and a (18446744073709551615 - b)) i ≡ min (bit_at a i) (1 - bit_at b i)
lacked a b i fits low = bit_at_and a (18446744073709551615 - b) i ∙ ap (λ n. min (bit_at a i) n) (bit_at_not w64 b i (omega (arith, fits)) low)

no-more : (n : ℕ) → not (nat_eq n 0) ≡ false → n ≡ 0
no-more n h = grind (arith, nat_tests)

pub more-none : (a b i : ℕ) → a < 18446744073709551616 → b < 18446744073709551616 → not (nat_eq (bit_and a (18446744073709551615 - b)) 0) ≡ false → bit_at a i ≡ 1 → bit_at b i ≡ 1
more-none a b i fits also none one = elim (lt-or i 64) [
  | inl low ↦ (
      let m : min (bit_at a i) (1 - bit_at b i) ≡ 0 = sym (lacked a b i also low) ∙ ap (λ n. bit_at n i) (no-more _ none) ∙ bit_at-zero i in
      omega (arith, m, one, bit_at-lt b i))
  | inr high ↦ absurd (no-bit (sym (bit_at_above a 64 i (omega (arith, fits)) high) ∙ one))
]

pub more-all : (a b : ℕ) → a < 18446744073709551616 → b < 18446744073709551616 → ((i : ℕ) → bit_at a i ≡ 1 → bit_at b i ≡ 1) → not (nat_eq (bit_and a (18446744073709551615 - b)) 0) ≡ false
more-all a b fits also all = ap (λ n. not (nat_eq n 0)) (same_from_bits (bit_and a (18446744073709551615 - b)) 0 (λ i. clear i ∙ sym (bit_at-zero i)))
  where
    clear : (i : ℕ) → bit_at (bit_and a (18446744073709551615 - b)) i ≡ 0
    clear i = elim (lt-or i 64) [
      | inl low ↦ elim (lt-or (bit_at a i) 1) [
        | inl zero_ ↦ lacked a b i also low ∙ omega (arith, zero_)
        | inr one ↦ (let h : bit_at a i ≡ 1 = omega (arith, one, bit_at-lt a i) in lacked a b i also low ∙ omega (arith, all i h))
      ]
      | inr high ↦ (let h : bit_at a i ≡ 0 = bit_at_above a 64 i (omega (arith, fits)) high in bit_at_and a (18446744073709551615 - b) i ∙ omega (arith, h))
    ]

-- ---- eight bits

bit-of-eight : (m i : ℕ) → i < 8 → bit_at (m % 256) i ≡ bit_at m i
bit-of-eight m i low = let e : m / 2 ^ 8 * 2 ^ 8 + m % 2 ^ 8 ≡ m = shr_split m 8 in sym (bit_at_cat_low (m / 2 ^ 8) 8 (m % 2 ^ 8) i low) ∙ ap (λ n. bit_at n i) e

-- they stand twice in a row
twice-low : (m i : ℕ) → i < 8 → bit_at (m * 257) i ≡ bit_at m i
twice-low m i low = let e : m * 2 ^ 8 + m ≡ m * 257 = omega arith in ap (λ n. bit_at n i) (sym e) ∙ bit_at_cat_low m 8 m i low

twice-high : (m i : ℕ) → m < 256 → 8 ≤ i → bit_at (m * 257) i ≡ bit_at m (i - 8)
twice-high m i fits high = let e : m * 2 ^ 8 + m ≡ m * 257 = omega arith in ap (λ n. bit_at n i) (sym e) ∙ bit_at_cat_high m 8 m i fits high

eight-cases : (word base i : ℕ) → base < 8 → i < 8 → (base + i < 8) ⊎ (8 ≤ base + i) → bit_at (word % 256 * 257) (base + i) ≡ bit_at word ((base + i) % 8)
eight-cases word base i low within (inl short) =
    let p : base + i ≡ (base + i) % 8 = omega arith in
    twice-low (word % 256) (base + i) short ∙ bit-of-eight word (base + i) short ∙ ap (bit_at word) p
eight-cases word base i low within (inr long) =
    let p : base + i - 8 ≡ (base + i) % 8 = omega arith in
    twice-high (word % 256) (base + i) (omega arith) long ∙ bit-of-eight word (base + i - 8) (omega arith) ∙ ap (bit_at word) p

-- so eight bits turned by a base have the bit of a place first
pub eight-turned : (word base i : ℕ) → base < 8 → i < 8 → bit_at (word % 256 * 257 / 2 ^ base % 256) i ≡ bit_at word ((base + i) % 8)
eight-turned word base i low within = bit-of-eight (word % 256 * 257 / 2 ^ base) i within ∙ bit-down (word % 256 * 257) base i ∙ eight-cases word base i low within (lt-or (base + i) 8)

pub eight-above : (m i : ℕ) → 8 ≤ i → bit_at (m % 256) i ≡ 0
eight-above m i high = bit_at_above (m % 256) 8 i (omega arith) high

-- ---- a word from a place on, under another's bit

module _ (word place other : ℕ) (fits : word < 18446744073709551616) (low : place < 64) where
  -- the number right below the bit, or the greatest where it is clear
  abbrev below : ℕ
  below = (bit_and other (1 * 2 ^ place % 18446744073709551616) + 18446744073709551615) % 18446744073709551616

  bit-alone : bit_and other (1 * 2 ^ place % 18446744073709551616) ≡ bit_at other place * 2 ^ place
  bit-alone =
      let one : 1 * 2 ^ place % 18446744073709551616 ≡ 2 ^ place = omega (arith, pow_below place 64 low) in
      ap (bit_and other) one ∙ and_pow other place

  below-set : bit_at other place ≡ 1 → below + 1 ≡ 2 ^ place
  below-set set =
      let one : bit_at other place * 2 ^ place ≡ 2 ^ place = rw set (omega arith) in
      omega (arith, bit-alone, one, pow_below place 64 low, pow_pos place)

  below-clear : bit_at other place ≡ 0 → below ≡ 18446744073709551615
  below-clear clear =
      let none : bit_at other place * 2 ^ place ≡ 0 = rw clear (omega arith) in
      omega (arith, bit-alone, none)

  pub from-none : nat_lt below word ≡ false → bit_at other place ≡ 1 → (i : ℕ) → place ≤ i → bit_at word i ≡ 0
  from-none none set i after =
      let short : word ≤ below = ltb-false below word none in
      let zero : word / 2 ^ place ≡ 0 = div-eq_of_lt (omega (arith, short, below-set set)) in
      none-from word place i zero after

  pub from-place : nat_lt below word ≡ true → bit_at other place ≡ 1
  from-place some = go (lt-or (bit_at other place) 1)
    where
      go : (bit_at other place < 1) ⊎ (1 ≤ bit_at other place) → bit_at other place ≡ 1
      go (inl none) = absurd (omega (arith, below-clear (omega (arith, none)), ltb-true below word some, fits))
      go (inr set) = omega (arith, set, bit_at-lt other place)

  pub from-some : ((i : ℕ) → place ≤ i → bit_at word i ≡ 0) → nat_lt below word ≡ false
  from-some clear =
      let zero : word / 2 ^ place ≡ 0 = same_from_bits (word / 2 ^ place) 0 (λ i. bit-down word place i ∙ clear (place + i) (omega arith) ∙ sym (bit_at-zero i)) in
      let short : word < 2 ^ place = omega (arith, lt-div-mul-add {a = word} {b = 2 ^ place} (pow_pos place), ap (λ n. n * 2 ^ place) zero) in
      le-ltb below word (go (lt-or (bit_at other place) 1) short)
    where
      go : (bit_at other place < 1) ⊎ (1 ≤ bit_at other place) → word < 2 ^ place → word ≤ below
      go (inl none) short = omega (arith, below-clear (omega (arith, none)), fits)
      go (inr set) short = omega (arith, below-set (omega (arith, set, bit_at-lt other place)), short)
