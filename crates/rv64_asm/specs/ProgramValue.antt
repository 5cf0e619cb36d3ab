-- What a contract sees of a program.
use Rattle.std.specs.Prelude.{ℕ, List}

-- the words of the text and the bytes of the data, each in order of address
pub record ProgramValue : Type 0 where
  pub words : List ℕ
  pub bytes : List ℕ
