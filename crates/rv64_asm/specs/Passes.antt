-- What the two passes over a text do with a line, and what each refuses.
use Rattle.std.specs.Prelude.{◌≡◌, ℕ, ◌+◌, List, ◌++◌, Result, Ok}
use Rattle.std.specs.Option.{ok_or}
use Rattle.rv64_asm.specs.declared.fault.LineFault.{LineFault}
use Rattle.rv64_asm.specs.declared.fault.LineFault.TheVariants.{TooManyPages}
use Rattle.rv64_asm.specs.declared.fault.AsmFault.{AsmFault}
use Rattle.rv64_asm.specs.declared.fault.AsmFault.TheVariants.{At, OutOfMemory}
use Rattle.rv64_asm.specs.declared.place.Place.{Place}
use Rattle.rv64_asm.specs.declared.statement.Item.{Item}
use Rattle.rv64_asm.specs.Label.{Label}
use Rattle.rv64_asm.specs.Numbers.{◌>>=◌}
use Rattle.rv64_asm.specs.Statements.{line_of}
use Rattle.rv64_asm.specs.Places.{address, after, IsLowestFault}
use Rattle.rv64_asm.specs.Written.{resolve, IsPiece}
use Rattle.rv64_asm.specs.Assembled.{IsTargetFault}

-- the place behind a line, and what it gives
unfoldable pub emit : Place → List Label → List ℕ → Result (Place × Item) LineFault
emit place labels line = do
  statement ← line_of place.part line
  item ← resolve labels (address place) statement
  next ← ok_or (after place statement) TooManyPages
  Ok (next, item)

-- an item's words and bytes put behind those that are there
pub record Appends (item : Item) (words new_words bytes new_bytes : List ℕ) : Type 0 where
  pub piece_words : List ℕ
  pub piece_bytes : List ℕ
  pub is_piece : IsPiece item piece_words piece_bytes
  pub words_grow : new_words ≡ words ++ piece_words
  pub bytes_grow : new_bytes ≡ bytes ++ piece_bytes

-- a refusal by a line itself and those before it; where memory runs out nothing is said
abbrev pub IsOwnRefusal : List (List ℕ) → AsmFault → Type 0
IsOwnRefusal lines (At fault number) = (k : ℕ) × (number ≡ k + 1) × IsLowestFault lines fault k
IsOwnRefusal lines OutOfMemory = Unit {0}

-- a refusal by a target
abbrev pub IsTargetRefusal : List (List ℕ) → AsmFault → Type 0
IsTargetRefusal lines (At fault number) = (k : ℕ) × (number ≡ k + 1) × IsTargetFault lines fault k
IsTargetRefusal lines OutOfMemory = Unit {0}
