-- The starts of an origin's contexts.
use Rattle.std.specs.Prelude.{ℕ}
use Rattle.checkpoint.specs.MarkValue.{MarkValue}
use Rattle.join_law.specs.Eight.{eight_from}
use Rattle.join_law.specs.declared.places.Eight.{Eight}
use Rattle.origin_set.specs.OriginValue.{OriginValue}

-- the start of a context, at count 0
abbrev pub start_of : OriginValue → ℕ → MarkValue
start_of origin context = record { origin = origin; context = context; count = 0 }

-- the start of each context, at its place
abbrev pub starts_of : OriginValue → Eight MarkValue
starts_of origin = eight_from (start_of origin)
