-- What was pushed to a list that isn't kept.
use Rattle.std.specs.Prelude.{List, [], ◌∷◌, ◌++◌}
use Rattle.listing.specs.declared.tally.Pushed.{Pushed, Nothing, After'}

-- the items, in order
abbrev pub items_of : {T : Type 0} → Pushed T → List T
items_of Nothing = []
items_of (After' marker before item) = items_of before ++ item ∷ []
