-- The greatest count of marks.
use Rattle.std.specs.Prelude.{◌≡◌, ℕ, ◌<◌, ◌≤◌, List, Contains, map}
use Rattle.checkpoint.specs.MarkValue.{MarkValue}
use Rattle.join_law.specs.Eight.{place_of}
use Rattle.join_law.specs.declared.places.Eight.{Eight}

-- the mark is one of the list, and none there of its context has a greater count
pub record IsBest (marks : List MarkValue) (best : MarkValue) : Type 0 where
  pub there : Contains marks best
  pub greatest : (mark : MarkValue) → Contains marks mark → mark.context ≡ best.context → mark.count ≤ best.count

-- the mark of each context is the best of those that stand at the context's place
abbrev pub AreBest : List (Eight MarkValue) → Eight MarkValue → Type 0
AreBest eights best = (i : ℕ) → i < 8 → IsBest (map (λ eight. place_of eight i) eights) (place_of best i)
