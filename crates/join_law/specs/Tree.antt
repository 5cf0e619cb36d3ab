-- Trees of merges.
use Rattle.std.specs.Prelude.{List, [], ◌∷◌, ◌++◌}
use Rattle.join_law.specs.declared.merges.Tree.{Tree, Leaf, Merge'}

-- the values at the ends, from left to right
abbrev pub leaves : {J A : Type 0} → Tree J A → List J
leaves (Leaf x) = x ∷ []
leaves (Merge' p l q r) = leaves l ++ leaves r

-- what the merges of a tree give, each being one join
abbrev pub merged : {J A : Type 0} → (J → J → J) → Tree J A → J
merged joined (Leaf x) = x
merged joined (Merge' p l q r) = joined (merged joined l) (merged joined r)
