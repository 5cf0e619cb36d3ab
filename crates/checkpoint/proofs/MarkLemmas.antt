-- Marks as they are made, copied, compared and joined.
use Rattle.std.proofs.Common.{◌≡◌, ◌↔◌, ℕ, ◌<◌, Some, IsTrue, Bool, nat_lt, refl, sym, ap, ◌∙◌, true, false, nat_eq, arith}
use Rattle.std.proofs.lemmas.Grind.{common_steps}
use Rattle.checkpoint.specs.Further.{MarkKin, further, same_parts}
use Rattle.checkpoint.specs.MarkValue.{MarkValue, state_of}
use Rattle.hart_step.specs.State.{State}
use Rattle.origin_set.specs.OriginValue.{OriginValue}

module _ (o p : OriginValue) (c n : ℕ) (same : p ≡ o) where
  -- a mark with a copy of another's origin
  pub with_origin : ◌≡◌ {A = MarkValue} (record { origin = p; context = c; count = n }) (record { origin = o; context = c; count = n })
  with_origin = same_parts _ _ _ _ _ _ same refl refl

  -- and with a copy of its state
  pub reached_with : (s : State) → state_of (record { origin = o; context = c; count = n }) ≡ Some s → state_of (record { origin = p; context = c; count = n }) ≡ Some s
  reached_with s here = ap state_of with_origin ∙ here

-- what a test of two values says, it says of what they are
pub same_along : {X P : Type 0} (x y a b : X) → x ≡ a → y ≡ b → P ↔ (x ≡ y) → P ↔ (a ≡ b)
same_along x y a b e f h = (λ p. sym e ∙ h.0 p ∙ f, λ same. h.1 (e ∙ same ∙ sym f))

pub is_less : (m n a b : ℕ) → m ≡ a → n ≡ b → IsTrue (nat_lt m n) ↔ (a < b)
is_less m n a b e f = (λ h. grind (arith, common_steps), λ h. grind (arith, common_steps))

pub is_equal : (r : Bool) (m n a b : ℕ) → r ≡ nat_eq m n → m ≡ a → n ≡ b → IsTrue r ↔ (a ≡ b)
is_equal r m n a b is e f = rw (is, ← e, ← f) (λ h. grind (arith, common_steps), λ h. grind (arith, common_steps))

-- what a test that holds says, and one that doesn't
pub tested : {P : Type 0} → IsTrue true ↔ P → P
tested h = h.0 refl

pub not_tested : {P : Type 0} → IsTrue false ↔ P → P → ⊥
not_tested h p = let e : false ≡ true = h.1 p in absurd (cc e)

-- marks of one origin are kin exactly where their contexts are equal
pub kin_along : {P : Type 0} (a b : MarkValue) → a.origin ≡ b.origin → P ↔ (a.context ≡ b.context) → P ↔ MarkKin a b
kin_along a b same h = (λ p. record { origin = same; context = h.0 p }, λ k. h.1 k.context)

-- the further of two marks is the one that isn't behind
pub further_right : (a b : MarkValue) → MarkKin a b → a.count < b.count → b ≡ further a b
further_right a b k h = same_parts _ _ _ _ _ _ (sym k.origin) (sym k.context) (omega (arith, h))

pub further_left : (a b : MarkValue) → (a.count < b.count → ⊥) → a ≡ further a b
further_left a b h = same_parts _ _ _ _ _ _ refl refl (omega (arith, h))
