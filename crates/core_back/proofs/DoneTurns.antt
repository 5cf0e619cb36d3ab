-- The words that say by context and by turn whether the oldest entry of a context is done.
use Rattle.std.proofs.Common.{◌≡◌, ℕ, ◌+◌, ◌%◌, ◌<◌, ◌≤◌, Bool, true, false, cond, List, [], ◌∷◌, ◌++◌, length, get_or, Option, Some, None, refl, sym, ap, subst, ◌∙◌, arith, inl, inr, ◌⊎◌}
use Rattle.std.specs.Prelude.{is_some, IsSome}
use Rattle.std.specs.Int.{bit_at}
use Rattle.std.specs.Simd.Lanes.{mask_l}
use Rattle.std.proofs.lemmas.Simd.{bit_mask_l}
use Rattle.std.proofs.lemmas.List.{length-append, get_or_append_left}
use Rattle.std.proofs.Math.Seq.{get_or-append_seam}
use Rattle.fetch_policy.specs.Lawful.{turn}
use Rattle.core_context.specs.Heads.{first_done}
use Rattle.core_back.specs.Machine.{Machine, context_at}

-- a word of the first contexts
pub record AreDoneBits (m : Machine) (contexts word : ℕ) : Type 0 where
  pub bits : List Bool
  pub is : word ≡ mask_l bits
  pub count : length bits ≡ contexts
  pub each : (c : ℕ) → c < contexts → get_or bits c false ≡ is_some (first_done (context_at m c).flight)

pub done_first : (m : Machine) → AreDoneBits m 0 0
done_first m = record { bits = []; is = refl; count = refl; each = λ c lt. absurd (omega (arith, lt)) }

last-or : (a b : ℕ) → a < b + 1 → (a < b) ⊎ (a ≡ b)
last-or a b lt = grind (arith, lt)

pub done_next : (m : Machine) (contexts word more c : ℕ) (bit : Bool) → AreDoneBits m contexts word → c ≡ contexts → bit ≡ is_some (first_done (context_at m c).flight)
    → ((bits : List Bool) → word ≡ mask_l bits → contexts ≡ length bits → more ≡ mask_l (bits ++ bit ∷ [])) → AreDoneBits m (contexts + 1) more
done_next m contexts word more c bit h here done pushed = record {
  bits = h.bits ++ bit ∷ [];
  is = pushed h.bits h.is (sym h.count);
  count = (let k = h.count in omega (arith, k, length-append h.bits (bit ∷ [])));
  each = λ d lt. elim (last-or d contexts lt) [
    | inl before ↦ (let k = h.count in get_or_append_left h.bits (bit ∷ []) false d (omega (arith, k, before)) ∙ h.each d before)
    | inr last ↦ (let k = h.count in
        ap (λ i. get_or (h.bits ++ bit ∷ []) i false) (last ∙ sym k) ∙ get_or-append_seam h.bits bit [] false ∙ done
        ∙ ap (λ e. is_some (first_done (context_at m e).flight)) (here ∙ sym last))
  ];
}

-- all eight
pub done_bits : (m : Machine) (contexts word : ℕ) → contexts ≤ 8 → 8 ≤ contexts → AreDoneBits m contexts word → AreDoneBits m 8 word
done_bits m contexts word most least h = let e : contexts ≡ 8 = omega (arith, most, least) in subst (λ n. AreDoneBits m n word) e h

pub none_some : {X : Type 0} (o : Option X) → is_some o ≡ false → o ≡ None
none_some None h = refl
none_some (Some x) h = absurd cc

pub some_some : {X : Type 0} (o : Option X) → is_some o ≡ true → IsSome o
some_some None h = absurd cc
some_some (Some x) h = refl

-- the bit of a context says whether its oldest entry is done
done_bit : (m : Machine) (word : ℕ) → AreDoneBits m 8 word → (c : ℕ) → c < 8 → bit_at word c ≡ cond {A = ℕ} (is_some (first_done (context_at m c).flight)) 1 0
done_bit m word h c lc = ap (λ n. bit_at n c) h.is ∙ bit_mask_l h.bits c ∙ ap (λ (b : Bool). cond {A = ℕ} b 1 0) (h.each c lc)

clear-bit : (b : Bool) → cond {A = ℕ} b 1 0 ≡ 0 → b ≡ false
clear-bit true e = absurd (no-one (sym e))
  where
    no-one : ◌≡◌ {A = ℕ} 0 1 → ⊥
    no-one k = omega (arith, k)
clear-bit false e = refl

set-bit : (b : Bool) → cond {A = ℕ} b 1 0 ≡ 1 → b ≡ true
set-bit true e = refl
set-bit false e = absurd (no-one e)
  where
    no-one : ◌≡◌ {A = ℕ} 0 1 → ⊥
    no-one k = omega (arith, k)

-- the same of the word that is turned, by turn
module _ (m : Machine) (cycle word turned : ℕ) (h : AreDoneBits m 8 word) (bits : (t : ℕ) → t < 8 → bit_at turned t ≡ bit_at word ((cycle % 8 + t) % 8)) (t c : ℕ) (lt : t < 8) (lc : c < 8) (at : turn cycle c ≡ t) where
  at_turn : bit_at turned t ≡ cond {A = ℕ} (is_some (first_done (context_at m c).flight)) 1 0
  at_turn = let here : (cycle % 8 + t) % 8 ≡ c = omega (arith, lc, at) in bits t lt ∙ ap (bit_at word) here ∙ done_bit m word h c lc

  pub done_clear : bit_at turned t ≡ 0 → first_done (context_at m c).flight ≡ None
  done_clear clear = none_some (first_done (context_at m c).flight) (clear-bit (is_some (first_done (context_at m c).flight)) (sym at_turn ∙ clear))

  pub done_set : bit_at turned t ≡ 1 → IsSome (first_done (context_at m c).flight)
  done_set set = some_some (first_done (context_at m c).flight) (set-bit (is_some (first_done (context_at m c).flight)) (sym at_turn ∙ set))
