-- What each rename replaced.
use Rattle.std.specs.Prelude.{◌≡◌, ℕ, List, [], ◌∷◌, slice_set, slice_index}
use Rattle.rename_file.specs.declared.rename_map.Rename.{Rename}
use Rattle.rename_file.specs.File.{Bank}

-- at the register of each rename stands what its rd stood for before it, the map being m before the first
abbrev pub ArePrevious : List ℕ → List ℕ → List Rename → Type 0
ArePrevious previous m [] = Unit {0}
ArePrevious previous m (n ∷ ns) = (slice_index previous n.register ≡ slice_index m n.rd) × ArePrevious previous (slice_set m n.rd n.register) ns

-- the renames of a context can be undone
abbrev pub IsUndoable : List ℕ → Bank → Type 0
IsUndoable previous b = ArePrevious previous b.committed b.renames
