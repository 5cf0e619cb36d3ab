-- The finite map of a function.
use Rattle.std.specs.Prelude.{ℕ, zero, suc, Option, Some, None, List, [], ◌∷◌}
use Rattle.std.specs.FinMap.{from_entries}
use Rattle.paged_memory.specs.Cells.{Cell, Cells}

-- entries, with one more in front where there is a cell for it
abbrev pub entry_before : ℕ → Option Cell → List (ℕ × Cell) → List (ℕ × Cell)
entry_before a None es = es
entry_before a (Some c) es = (a, c) ∷ es

-- the entries of a function at the addresses below a bound, the highest first
unfoldable pub entries_below : (ℕ → Option Cell) → ℕ → List (ℕ × Cell)
entries_below cell_at zero = []
entries_below cell_at (suc n) = entry_before n (cell_at n) (entries_below cell_at n)

-- the map that has what a function answers at each address below a bound
unfoldable pub tabulated : (ℕ → Option Cell) → ℕ → Cells
tabulated cell_at bound = from_entries (entries_below cell_at bound)
