-- The word of the turns that are left, and its first turn.
use Rattle.std.proofs.Common.{◌≡◌, ◌≢◌, ℕ, ◌+◌, ◌<◌, ◌≤◌, Bool, true, false, not, None, refl, sym, ap, ◌∙◌, arith, inl, inr, ◌⊎◌}
use mir.Val.{bool_byte}
use Rattle.std.specs.Prelude.{IsSome}
use Rattle.std.specs.Int.{bit_at}
use Rattle.std.proofs.lemmas.Nat.Bits.{bit_at-zero, same_from_bits_below}
use Rattle.fetch_policy.specs.Lawful.{turn}
use Rattle.core_context.specs.Heads.{first_done}
use Rattle.core_back.specs.Machine.{Machine, context_at}

-- of the machine at the beginning: the oldest entry of a context whose turn is left was done, and that of one whose turn is passed over was not
pub record AreLeft (m : Machine) (word t : ℕ) : Type 0 where
  pub few : t ≤ 64
  pub here : t < 64 → bit_at word t ≡ 1
  pub lowest : (i : ℕ) → i < t → bit_at word i ≡ 0
  pub eight : (i : ℕ) → 8 ≤ i → i < 64 → bit_at word i ≡ 0
  pub none : (v c : ℕ) → t ≤ v → v < 8 → c < 8 → turn m.view.cycle c ≡ v → bit_at word v ≡ 0 → first_done (context_at m c).flight ≡ None
  pub some : (v c : ℕ) → v < 8 → c < 8 → turn m.view.cycle c ≡ v → bit_at word v ≡ 1 → IsSome (first_done (context_at m c).flight)

no-one : ◌≡◌ {A = ℕ} 1 0 → ⊥
no-one e = omega (arith, e)

eq-or : (a b : ℕ) → (a ≡ b) ⊎ (a ≢ b)
eq-or a b = grind arith

lt-or : (a b : ℕ) → (a < b) ⊎ (b ≤ a)
lt-or a b = grind arith

-- the turn is one of eight
pub left_small : (m : Machine) (word t : ℕ) → AreLeft m word t → t < 64 → t < 8
left_small m word t h within = elim (lt-or t 8) [
  | inl low ↦ low
  | inr high ↦ absurd (no-one (sym (h.here within) ∙ h.eight t high within))
]

-- there is one where the word isn't 0
pub left_within : (m : Machine) (word t : ℕ) → AreLeft m word t → word < 18446744073709551616 → word ≢ 0 → t < 64
left_within m word t h fits some = elim (lt-or t 64) [
  | inl low ↦ low
  | inr high ↦ absurd (some (same_from_bits_below 64 word 0 fits (omega arith) (λ i low. h.lowest i (omega (arith, low, high)) ∙ sym (bit_at-zero i))))
]

-- and none where it is
pub left_over : (m : Machine) (word t : ℕ) → AreLeft m word t → word ≡ 0 → 64 ≤ t
left_over m word t h none = elim (lt-or t 64) [
  | inl low ↦ absurd (no-one (sym (h.here low) ∙ ap (λ w. bit_at w t) none ∙ bit_at-zero t))
  | inr high ↦ high
]

-- its context's oldest entry was done
pub left_done : (m : Machine) (word t c : ℕ) → AreLeft m word t → t < 64 → c < 8 → turn m.view.cycle c ≡ t → IsSome (first_done (context_at m c).flight)
left_done m word t c h within lc at = h.some t c (left_small m word t h within) lc at (h.here within)

-- ---- one turn goes, where its context doesn't go on, and the first that is left comes

module _ (m : Machine) (word more t u : ℕ) (on : Bool) (h : AreLeft m word t) (within : t < 64) (kept : on ≡ true → more ≡ word) (clear : on ≡ false → bit_at more t ≡ 0)
    (others : (i : ℕ) → i < 64 → i ≢ t → bit_at more i ≡ bit_at word i) (few : u ≤ 64) (lowest : (i : ℕ) → i < u → bit_at more i ≡ 0) (here : u < 64 → bit_at more u ≡ 1) where
  -- no turn before is left
  not_before : t ≤ u
  not_before = elim (lt-or u t) [
    | inl before ↦ absurd (no-one (sym (here (omega (arith, before, within))) ∙ others u (omega (arith, before, within)) (λ e. omega (arith, e, before)) ∙ h.lowest u before))
    | inr after ↦ after
  ]

  pub left_from : t + bool_byte (not on) ≤ u
  left_from = by on refl
    where
      by : (b : Bool) → on ≡ b → t + bool_byte (not b) ≤ u
      by true is = let n = not_before in omega (arith, n)
      by false is = let n = not_before in elim (eq-or u t) [
        | inl same ↦ absurd (no-one (sym (here (omega (arith, same, within))) ∙ ap (bit_at more) same ∙ clear is))
        | inr other ↦ omega (arith, n, other)
      ]

  -- between the two no turn is left
  pub left_between : (i : ℕ) → t + bool_byte (not on) ≤ i → i < u → bit_at word i ≡ 0
  left_between i from below = by on refl from
    where
      by : (b : Bool) → on ≡ b → t + bool_byte (not b) ≤ i → bit_at word i ≡ 0
      by true is from = sym (ap (λ w. bit_at w i) (kept is)) ∙ lowest i below
      by false is from = sym (others i (omega (arith, below, few)) (λ e. omega (arith, e, from))) ∙ lowest i below

  pub left_next : AreLeft m more u
  left_next = record {
    few = few;
    here = here;
    lowest = lowest;
    eight = λ i high low. (let s = left_small m word t h within in others i low (λ e. omega (arith, e, s, high)) ∙ h.eight i high low);
    none = none_next;
    some = λ v c low lc at set. elim (eq-or v t) [
      | inl same ↦ h.some v c low lc at (ap (bit_at word) same ∙ h.here within)
      | inr other ↦ h.some v c low lc at (sym (others v (omega (arith, low)) other) ∙ set)
    ];
  }
    where
      none_next : (v c : ℕ) → u ≤ v → v < 8 → c < 8 → turn m.view.cycle c ≡ v → bit_at more v ≡ 0 → first_done (context_at m c).flight ≡ None
      none_next v c from low lc at gone = by on refl
        where
          past : t ≤ v
          past = let n = not_before in omega (arith, n, from)

          by : (b : Bool) → on ≡ b → first_done (context_at m c).flight ≡ None
          by true is = h.none v c past low lc at (sym (ap (λ w. bit_at w v) (kept is)) ∙ gone)
          by false is = let f : t + bool_byte (not on) ≤ u = left_from in let one : bool_byte (not on) ≡ 1 = ap (λ b. bool_byte (not b)) is in
              h.none v c past low lc at (sym (others v (omega (arith, low)) (λ e. omega (arith, e, f, one, from))) ∙ gone)
