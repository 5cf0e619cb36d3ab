-- Items that are numbered as they come, modulo 256.
use Rattle.std.specs.Prelude.{ℕ, zero, suc, ◌+◌, ◌-◌, ◌%◌, List, [], ◌∷◌, ◌++◌}

-- n items from a number on, where at gives the item of a number
abbrev pub numbered : {X : Type 0} → (ℕ → X) → ℕ → ℕ → List X
numbered at head zero = []
numbered at head (suc n) = numbered at head n ++ at ((head + n) % 256) ∷ []

-- how many numbers there are from one up to another
abbrev pub count : ℕ → ℕ → ℕ
count head tail = (tail + (256 - head)) % 256
