-- Lines that say the same.
use Rattle.std.specs.Prelude.{◌≡◌, ℕ, List}
use Rattle.rv64_asm.specs.declared.words.Part.{Part}
use Rattle.rv64_asm.specs.Statements.{line_of, label_of}

-- two lines of one label, or none, that say the same in each part
pub record IsSameLine (line other : List ℕ) : Type 0 where
  pub labels : label_of line ≡ label_of other
  pub says : (part : Part) → line_of part line ≡ line_of part other
