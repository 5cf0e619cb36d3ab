-- Eight marks that belong together.
use Rattle.std.specs.Prelude.{◌≡◌, ℕ, ◌<◌}
use Rattle.checkpoint.specs.MarkValue.{MarkValue}
use Rattle.join_law.specs.Eight.{place_of}
use Rattle.join_law.specs.declared.places.Eight.{Eight}
use Rattle.origin_set.specs.OriginValue.{OriginValue}

-- a mark of the origin and the context
pub record IsMarkOf (origin : OriginValue) (context : ℕ) (mark : MarkValue) : Type 0 where
  pub of_origin : mark.origin ≡ origin
  pub of_context : mark.context ≡ context

-- the mark at each place is of the origin and the place's context
abbrev pub AreMarksOf : OriginValue → Eight MarkValue → Type 0
AreMarksOf origin marks = (i : ℕ) → i < 8 → IsMarkOf origin i (place_of marks i)

-- all are of one origin, and context i stands at place i
abbrev pub IsAligned : Eight MarkValue → Type 0
IsAligned marks = AreMarksOf marks.c0.origin marks
