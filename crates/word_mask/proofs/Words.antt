-- One bit of a word.
use Rattle.std.proofs.Common.{◌≡◌, ℕ, ◌+◌, ◌-◌, ◌*◌, ◌/◌, ◌%◌, ◌^◌, ◌<◌, ◌≤◌, inl, inr, Bool, true, false, cond, not, ◌&&◌, eqb, List, [], ◌∷◌, length, refl, ap, sym, ◌∙◌, add-one, arith, w64}
use mir.Val.{bool_byte}
use Rattle.std.specs.Prelude.{bit_and, bit_or, count_ones}
use Rattle.std.specs.Int.Count.{ones}
use Rattle.std.specs.Int.{bit_at, bit_not, trailing_zeros, trailing_ones}
use Rattle.std.specs.List.{AllPairs, filter}
use Rattle.std.proofs.lemmas.Bool.{cases_eq, cases_lt, cases_Bool, eqb-true, eqb-false, eq-eqb, ne_eqb, true≢false, false_from_ne_true}
use Rattle.std.proofs.lemmas.Bool.Decides.{eqb_tells, same_from_decides, Decides-eqb, Decides-like}
use Rattle.std.proofs.lemmas.List.Elements.{All-weaker}
use Rattle.word_mask.specs.Mask.{is_listed}
use Rattle.word_mask.proofs.Lists.{filter_agree_on, AllPairs-head, AllPairs-tail}
use Rattle.std.proofs.lemmas.Nat.{or_comm, or_shifted, and_le_l, ones_cat, and-not, and_comm, one_shl, shr_split, pow_pos}
use Rattle.std.proofs.lemmas.Nat.Bits.{shr_and_one, bit_at_set_same, bit_at_set_other, bit_at_clear_same, bit_at_clear_other, bit_at_above, bit_at-lt, and_pow, bit_at-trailing_zeros, bit_at-trailing_ones, same_from_bits, bit_at-zero, bit_at_and, bit_at_not}
use Rattle.std.proofs.Math.Nat.{suc-mul, mod-lt}
use Rattle.std.proofs.Math.Pow.{pow-lt}
use Rattle.word_mask.specs.Mask.{has}

pub has-true : (w p : ℕ) → has w p ≡ true → bit_at w p ≡ 1
unfolding has
has-true w p h = eqb-true (bit_at w p) 1 h

pub true-has : (w p : ℕ) → bit_at w p ≡ 1 → has w p ≡ true
unfolding has
true-has w p h = eq-eqb (bit_at w p) 1 h

pub has-false : (w p : ℕ) → has w p ≡ false → bit_at w p ≡ 0
unfolding has
has-false w p h = omega (arith, bit_at-lt w p, eqb-false (bit_at w p) 1 h)

pub false-has : (w p : ℕ) → bit_at w p ≡ 0 → has w p ≡ false
unfolding has
false-has w p h = ne_eqb (bit_at w p) 1 (omega arith)

pub has_same : (v w p : ℕ) → bit_at v p ≡ bit_at w p → has v p ≡ has w p
unfolding has
has_same v w p h = rw h refl

-- a word of 64 bits has none from 64 on
pub has_none_above : (w p : ℕ) → w < 2 ^ 64 → 64 ≤ p → has w p ≡ false
has_none_above w p fits above = false-has w p (bit_at_above w 64 p fits above)

pub has_below : (w p : ℕ) → w < 2 ^ 64 → has w p ≡ true → p < 64
has_below w p fits h = elim (cases_lt p 64) [
  | inl lt ↦ lt
  | inr le ↦ absurd (true≢false (sym h ∙ has_none_above w p fits le))
]

pub has_zero : (p : ℕ) → has 0 p ≡ false
has_zero p = false-has 0 p (bit_at-zero p)

-- the word with a bit
pub with_bit : (w k p : ℕ) → k < 64 → has (bit_or w (1 * 2 ^ k % 2 ^ 64)) p ≡ cond (eqb p k) true (has w p)
with_bit w k p lt = elim (eqb_tells p k) [
  | inl t ↦ rw (t.0, t.1) (true-has (bit_or w (1 * 2 ^ k % 2 ^ 64)) k (bit_at_set_same w64 w k lt))
  | inr t ↦ rw t.0 (has_same (bit_or w (1 * 2 ^ k % 2 ^ 64)) w p (bit_at_set_other w64 w k lt p t.1))
]

or_none : (w : ℕ) → w < 2 ^ 64 → bit_or w 0 ≡ w
or_none w fits = let shifted : bit_or (0 * 2 ^ 64) w ≡ 0 * 2 ^ 64 + w = or_shifted 0 64 w fits in let same : bit_or 0 w ≡ w = omega (arith, shifted) in or_comm w 0 ∙ same

-- a flag as a number
pub byte_number : (flag : Bool) (b : ℕ) → b ≡ bool_byte flag → b ≡ cond flag 1 0
byte_number true b is = is
byte_number false b is = is

-- the word with a bit, where told so
pub with_bit_where : (w k p b : ℕ) (flag : Bool) → w < 2 ^ 64 → k < 64 → b ≡ cond flag 1 0 → has (bit_or w (b * 2 ^ k % 2 ^ 64)) p ≡ cond (eqb p k && flag) true (has w p)
with_bit_where w k p b true fits lt is = rw is (with_bit w k p lt ∙ ap (λ t. cond t true (has w p)) (and_true (eqb p k)))
  where
    and_true : (t : Bool) → t ≡ (t && true)
    and_true true = refl
    and_true false = refl
with_bit_where w k p b false fits lt is = rw is (let none : 0 * 2 ^ k % 2 ^ 64 ≡ 0 = omega arith in ap (λ v. has (bit_or w v) p) none ∙ ap (λ v. has v p) (or_none w fits) ∙ ap (λ t. cond t true (has w p)) (and_false (eqb p k)))
  where
    and_false : (t : Bool) → false ≡ (t && false)
    and_false true = refl
    and_false false = refl

-- the word without a bit
pub without_bit : (w k p : ℕ) → w < 2 ^ 64 → k < 64 → has (bit_and w (bit_not w64 (1 * 2 ^ k % 2 ^ 64))) p ≡ cond (eqb p k) false (has w p)
without_bit w k p fits lt = elim (eqb_tells p k) [
  | inl t ↦ rw (t.0, t.1) (false-has (bit_and w (bit_not w64 (1 * 2 ^ k % 2 ^ 64))) k (bit_at_clear_same w64 w k lt))
  | inr t ↦ rw t.0 (elim (cases_lt p 64) [
    | inl within ↦ has_same (bit_and w (bit_not w64 (1 * 2 ^ k % 2 ^ 64))) w p (bit_at_clear_other w64 w k lt p within t.1)
    | inr above ↦
        false-has (bit_and w (bit_not w64 (1 * 2 ^ k % 2 ^ 64))) p
        (omega (arith, bit_at_and w (bit_not w64 (1 * 2 ^ k % 2 ^ 64)) p, bit_at_above w 64 p fits above))
        ∙ sym (has_none_above w p fits above)
  ])
]

pub cond_and_not : (b c : Bool) → cond b false c ≡ (c && not b)
cond_and_not true true = refl
cond_and_not true false = refl
cond_and_not false true = refl
cond_and_not false false = refl

ones_twice : (a : ℕ) → count_ones (a * 2) ≡ count_ones a
unfolding ones
ones_twice a =
    let same : a * 2 ≡ a * 2 ^ 1 + 0 = omega arith in
    let cat : count_ones (a * 2 ^ 1 + 0) ≡ count_ones a + count_ones 0 = ones_cat 1 a 0 (omega arith) in
    let none : count_ones 0 ≡ 0 = refl in
    ap count_ones same ∙ omega (arith, cat, none)

ones_odd : (a : ℕ) → count_ones (a * 2 + 1) ≡ count_ones a + 1
unfolding ones
ones_odd a =
    let same : a * 2 + 1 ≡ a * 2 ^ 1 + 1 = omega arith in
    let cat : count_ones (a * 2 ^ 1 + 1) ≡ count_ones a + count_ones 1 = ones_cat 1 a 1 (omega arith) in
    let one : count_ones 1 ≡ 1 = refl in
    ap count_ones same ∙ omega (arith, cat, one)

ones_less_at : (c w b a k r m : ℕ) → m ≡ 2 ^ k → r < m → w ≡ b * m + r → b ≡ a * 2 + 1 → c + m ≡ w → count_ones c + 1 ≡ count_ones w
ones_less_at c w b a k r m pow lt split odd less =
    let low : c ≡ a * 2 * m + r =
    (let wide : (a * 2 + 1) * m ≡ a * 2 * m + m = rw add-one (suc-mul (a * 2) m) in
    let whole : w ≡ (a * 2 + 1) * m + r = rw odd at split in
    omega (arith, wide, whole, less)) in
    let one : count_ones c ≡ count_ones (a * 2) + count_ones r = rw (low, pow) (ones_cat k (a * 2) r (rw pow at lt)) in
    let two : count_ones w ≡ count_ones (a * 2 + 1) + count_ones r = rw (split, odd, pow) (ones_cat k (a * 2 + 1) r (rw pow at lt)) in
    omega (arith, one, two, ones_twice a, ones_odd a)

-- a word that loses a bit has one less
pub ones_without : (w k : ℕ) → w < 2 ^ 64 → k < 64 → bit_at w k ≡ 1 → count_ones (bit_and w (bit_not w64 (1 * 2 ^ k % 2 ^ 64))) + 1 ≡ count_ones w
ones_without w k fits lt set =
    let one : 1 * 2 ^ k % 2 ^ 64 ≡ 2 ^ k = one_shl k 64 lt in
    let below : 2 ^ k < 2 ^ 64 = pow-lt lt in
    let split : bit_and (2 ^ 64 - 1 - 2 ^ k) w + bit_and (2 ^ k) w ≡ w = and-not 64 (2 ^ k) w below fits in
    let here : bit_and (2 ^ k) w ≡ 2 ^ k = and_comm (2 ^ k) w ∙ and_pow w k ∙ rw set (omega arith) in
    rw one
    (ones_less_at (bit_and w (2 ^ 64 - 1 - 2 ^ k)) w (w / 2 ^ k) (w / 2 ^ k / 2) k (w % 2 ^ k) (2 ^ k) refl (mod-lt w (pow_pos k)) (sym (shr_split w k))
    (omega (arith, set)) (omega (arith, split, here, and_comm (2 ^ 64 - 1 - 2 ^ k) w)))

-- the place is below 64, the word has or lacks it as told, and it is the first such place
pub record IsFirst (w p : ℕ) (flag : Bool) : Type 0 where
  pub bound : p < 64
  pub here : has w p ≡ flag
  pub below : (i : ℕ) → i < p → has w i ≡ not flag

-- a word with a bit is not 0
pub lowest_bit : (w : ℕ) → 0 < w → w < 2 ^ 64 → IsFirst w (trailing_zeros w64 w) true
lowest_bit w pos fits =
    let t = bit_at-trailing_zeros w64 w pos fits in
    record { bound = t.0; here = true-has w (trailing_zeros w64 w) t.1; below = λ i lt. false-has w i (t.2 i lt) }

one : count_ones 1 ≡ 1
unfolding ones
one = refl

full : count_ones 18446744073709551615 ≡ 64
full =
    let b : count_ones 3 ≡ count_ones 1 + count_ones 1 = ones_cat 1 1 1 (omega arith) in
    let c : count_ones 15 ≡ count_ones 3 + count_ones 3 = ones_cat 2 3 3 (omega arith) in
    let d : count_ones 255 ≡ count_ones 15 + count_ones 15 = ones_cat 4 15 15 (omega arith) in
    let e : count_ones 65535 ≡ count_ones 255 + count_ones 255 = ones_cat 8 255 255 (omega arith) in
    let f : count_ones 4294967295 ≡ count_ones 65535 + count_ones 65535 = ones_cat 16 65535 65535 (omega arith) in
    let g : count_ones 18446744073709551615 ≡ count_ones 4294967295 + count_ones 4294967295 = ones_cat 32 4294967295 4294967295 (omega arith) in
    omega (arith, one, b, c, d, e, f, g)

-- a word that is not full lacks one
pub lowest_gap : (w : ℕ) → w < 2 ^ 64 → count_ones w < 64 → IsFirst w (trailing_ones w64 w) false
lowest_gap w fits few = elim (cases_eq w 18446744073709551615) [
  | inl same ↦ absurd (let all : count_ones w ≡ 64 = rw same full in omega arith)
  | inr other ↦
      let t = bit_at-trailing_ones w64 w (omega arith) in
      record { bound = t.0; here = false-has w (trailing_ones w64 w) t.1; below = λ i lt. true-has w i (t.2 i lt) }
]

-- the test of a bit in code
pub tested : (w p : ℕ) → eqb (bit_and (w / 2 ^ p) 1) 1 ≡ has w p
unfolding has
tested w p = rw shr_and_one refl

pub eqb_swap : (a b : ℕ) → eqb a b ≡ eqb b a
eqb_swap a b = same_from_decides (eqb a b) (eqb b a) (Decides-eqb a b) (Decides-like (eqb b a) sym sym (Decides-eqb b a))

empty_word : (w : ℕ) → ((p : ℕ) → has w p ≡ false) → w ≡ 0
empty_word w h = same_from_bits w 0 (λ i. has-false w i (h i) ∙ sym (bit_at-zero i))

-- what a list has beyond its first
listed_later : (q p : ℕ) (qs : List ℕ) → eqb q p ≡ false → is_listed (q ∷ qs) p ≡ true → is_listed qs p ≡ true
listed_later q p qs other h = rw other at h

-- a word's bits are counted by a list that has the place of each once
pub count_listed : (w : ℕ) (order : List ℕ) → w < 2 ^ 64 → AllPairs (λ p q. eqb p q ≡ false) order
    → ((p : ℕ) → has w p ≡ true → is_listed order p ≡ true) → count_ones w ≡ length (filter (has w) order)
unfolding ones
count_listed w [] fits once covers =
    let none : w ≡ 0 = empty_word w (λ p. false_from_ne_true (has w p) (λ t. true≢false (sym (covers p t)))) in
    rw none refl
count_listed w (q ∷ qs) fits once covers = elim (cases_Bool (has w q)) [
  | inl set ↦
      let lt : q < 64 = has_below w q fits set in
      let less : ℕ = bit_and w (bit_not w64 (1 * 2 ^ q % 2 ^ 64)) in
      let fewer : count_ones less + 1 ≡ count_ones w = ones_without w q fits lt (has-true w q set) in
      let bits : (p : ℕ) → has less p ≡ cond (eqb p q) false (has w p) = λ p. without_bit w q p fits lt in
      let rest : count_ones less ≡ length (filter (has less) qs) =
      count_listed less qs (omega (arith, and_le_l w (bit_not w64 (1 * 2 ^ q % 2 ^ 64)))) (AllPairs-tail (λ p r. eqb p r ≡ false) q qs once)
      (λ p t. elim (cases_Bool (eqb p q)) [
        | inl same ↦ absurd (true≢false (sym t ∙ bits p ∙ rw same refl))
        | inr other ↦ listed_later q p qs (eqb_swap q p ∙ other) (covers p (sym (rw other at (bits p)) ∙ t))
      ]) in
      let alike : filter (has less) qs ≡ filter (has w) qs =
      filter_agree_on (has less) (has w) qs
      (All-weaker (λ p. eqb q p ≡ false) (λ p. has less p ≡ has w p) (λ p other. bits p ∙ rw (eqb_swap p q ∙ other) refl) qs
      (AllPairs-head (λ p r. eqb p r ≡ false) q qs once)) in
      rw set (omega (arith, fewer, rest, ap length alike))
  | inr unset ↦
      rw unset
      (count_listed w qs fits (AllPairs-tail (λ p r. eqb p r ≡ false) q qs once)
      (λ p t. elim (eqb_tells q p) [
        | inl same ↦ absurd (true≢false (sym t ∙ ap (has w) (sym same.1) ∙ unset))
        | inr other ↦ listed_later q p qs other.0 (covers p t)
      ]))
]

-- the places of two words
pub has_both : (v w p : ℕ) → has (bit_and v w) p ≡ (has v p && has w p)
has_both v w p = elim (cases_Bool (has v p)) [
  | inl a ↦ elim (cases_Bool (has w p)) [
    | inl b ↦ rw (a, b) (true-has (bit_and v w) p (omega (arith, bit_at_and v w p, has-true v p a, has-true w p b)))
    | inr b ↦ rw (a, b) (false-has (bit_and v w) p (omega (arith, bit_at_and v w p, has-true v p a, has-false w p b)))
  ]
  | inr a ↦ rw a (false-has (bit_and v w) p (omega (arith, bit_at_and v w p, has-false v p a)))
]

-- the places that a word lacks
has_lacked : (w p : ℕ) → w < 2 ^ 64 → p < 64 → has (bit_not w64 w) p ≡ not (has w p)
has_lacked w p fits lt =
    let flipped : bit_at (bit_not w64 w) p ≡ 1 - bit_at w p = bit_at_not w64 w p fits lt in
    elim (cases_Bool (has w p)) [
      | inl a ↦ rw a (false-has (bit_not w64 w) p (omega (arith, flipped, has-true w p a)))
      | inr a ↦ rw a (true-has (bit_not w64 w) p (omega (arith, flipped, has-false w p a)))
    ]

-- the places of one word that another lacks
pub has_without : (v w p : ℕ) → v < 2 ^ 64 → w < 2 ^ 64 → has (bit_and v (bit_not w64 w)) p ≡ (has v p && not (has w p))
has_without v w p fits also = has_both v (bit_not w64 w) p ∙ elim (cases_lt p 64) [
  | inl lt ↦ ap (λ b. has v p && b) (has_lacked w p also lt)
  | inr above ↦ rw (has_none_above v p fits above) refl
]

-- the word without a bit, where told so
pub without_bit_where : (w k p b : ℕ) (flag : Bool) → w < 2 ^ 64 → k < 64 → b ≡ cond flag 1 0 → has (bit_and w (bit_not w64 (b * 2 ^ k % 2 ^ 64))) p ≡ cond (eqb p k && flag) false (has w p)
without_bit_where w k p b true fits lt is = rw is (without_bit w k p fits lt ∙ ap (λ t. cond t false (has w p)) (and_true (eqb p k)))
  where
    and_true : (t : Bool) → t ≡ (t && true)
    and_true true = refl
    and_true false = refl
without_bit_where w k p b false fits lt is = rw is (let none : 0 * 2 ^ k % 2 ^ 64 ≡ 0 = omega arith in ap (λ v. has (bit_and w (bit_not w64 v)) p) none ∙ has_without w 0 p fits (omega arith) ∙ ap (λ t. has w p && not t) (false-has 0 p (bit_at-zero p)) ∙ kept (has w p) ∙ ap (λ t. cond t false (has w p)) (and_false (eqb p k)))
  where
    kept : (t : Bool) → (t && true) ≡ t
    kept true = refl
    kept false = refl

    and_false : (t : Bool) → false ≡ (t && false)
    and_false true = refl
    and_false false = refl
