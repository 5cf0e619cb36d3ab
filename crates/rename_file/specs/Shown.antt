-- What the registers in memory stand for.
use Rattle.std.specs.Prelude.{ℕ, ◌<◌, ◌≤◌, length}
use Rattle.rename_file.specs.declared.registers.Registers.TheInside.{Inside}
use Rattle.rename_file.specs.File.{File, IsFile, bank}
use Rattle.rename_file.specs.Previous.{IsUndoable}

abbrev pub shown : {A : Type 0} → Inside A → File
shown r = record { banks = r.maps; free = r.free; cells = r.cells }

-- there are at most 224 extra registers
pub record IsShown {A : Type 0} (r : Inside A) : Type 0 where
  pub file : IsFile (shown r)
  pub room : length r.cells ≤ 480
  pub undoable : (c : ℕ) → c < 8 → IsUndoable r.previous (bank (shown r) c)
