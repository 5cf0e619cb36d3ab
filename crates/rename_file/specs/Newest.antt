-- What a source reads.
use Rattle.std.specs.Prelude.{◌≡◌, ◌≢◌, ℕ, List, ◌∷◌, ◌++◌, ◌⊎◌, All, slice_index}
use Rattle.rename_file.specs.declared.rename_map.Rename.{Rename}
use Rattle.rename_file.specs.File.{Bank}

-- no rename of rs
abbrev pub NoRename : ℕ → List Rename → Type 0
NoRename rs ns = All (λ n. n.rd ≢ rs) ns

-- p is the newest rename of rs, else the committed register
abbrev pub IsNewest : Bank → ℕ → ℕ → Type 0
IsNewest b rs p =
    (NoRename rs b.renames × (slice_index b.committed rs ≡ p))
    ⊎ ((older newer : List Rename) × (b.renames ≡ older ++ (record { rd = rs; register = p } ∷ newer)) × NoRename rs newer)
