-- The values of registers, and which of them are still to come.
use Rattle.std.specs.Prelude.{ℕ, Bool, List, [], ◌∷◌, Option, Some, None, if◌then◌else◌}

-- each value, or none where the register is busy
abbrev pub cells_of : List ℕ → List Bool → List (Option ℕ)
cells_of [] bs = []
cells_of (v ∷ vs) [] = []
cells_of (v ∷ vs) (b ∷ bs) = (if b then None else Some v) ∷ cells_of vs bs
