-- The further of two marks, and when there is none.
use Rattle.std.specs.Prelude.{◌≡◌, ◌≢◌, ℕ, max, refl}
use Rattle.std.proofs.Common.{sym, ◌∙◌, arith}
use Rattle.checkpoint.specs.MarkValue.{MarkValue}
use Rattle.checkpoint.specs.declared.fault.MarkFault.{MarkFault}
use Rattle.checkpoint.specs.declared.fault.MarkFault.TheVariants.{ForeignOrigin, OtherContext, OutOfMemory}
use Rattle.join_law.specs.Laws.{JoinLaws}
use Rattle.origin_set.specs.OriginValue.{OriginValue}

-- the two are of one origin and context
pub record MarkKin (a b : MarkValue) : Type 0 where
  pub origin : a.origin ≡ b.origin
  pub context : a.context ≡ b.context

-- the one with the greater count; kin of equal counts are equal
abbrev pub further : MarkValue → MarkValue → MarkValue
further a b = record { origin = a.origin; context = a.context; count = max a.count b.count }

-- why two marks have no join: another origin is told before another context
abbrev pub IsUnjoinable : MarkValue → MarkValue → MarkFault → Type 0
IsUnjoinable a b ForeignOrigin = a.origin ≢ b.origin
IsUnjoinable a b OtherContext = (a.origin ≡ b.origin) × (a.context ≢ b.context)
IsUnjoinable a b OutOfMemory = ⊥

-- marks with equal parts are equal
pub same_parts : (o p : OriginValue) (c d m n : ℕ) → o ≡ p → c ≡ d → m ≡ n → ◌≡◌ {A = MarkValue} (record { origin = o; context = c; count = m }) (record { origin = p; context = d; count = n })
same_parts o p c d m n e f g = rw (e, f, g) refl

-- so marks of one origin and context are kin, and join to the further
pub mark_laws : JoinLaws MarkKin further
mark_laws = record {
  kin_self = λ x. record { origin = refl; context = refl };
  kin_back = λ x y h. record { origin = sym h.origin; context = sym h.context };
  kin_along = λ x y z h k. record { origin = h.origin ∙ k.origin; context = h.context ∙ k.context };
  kin_joined = λ x y h. record { origin = refl; context = refl };
  idempotent = λ x. same_parts _ _ _ _ _ _ refl refl (omega arith);
  commutative = λ x y h. same_parts _ _ _ _ _ _ h.origin h.context (omega arith);
  associative = λ x y z h k. same_parts _ _ _ _ _ _ refl refl (omega arith);
}
