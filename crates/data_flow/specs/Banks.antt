-- What naming a result does to a bank.
use Rattle.std.specs.Prelude.{◌≡◌, ℕ, ◌<◌, ◌≤◌, length, slice_set, None, ◌==◌, if◌then◌else◌}
use Rattle.rename_file.specs.File.{Bank, File, IsNewestFree, bank, mapped, renamed_bank}
use Rattle.data_flow.specs.declared.operands.Operands.{Operands}
use Rattle.data_flow.specs.declared.operands.Renamed.{Renamed}

-- a bank with one more rename, where the instruction has a destination
abbrev pub bank_with : Bank → ℕ → ℕ → Bank
bank_with b rd p = if rd == 0 then b else renamed_bank b rd p

-- a register that was free is named, and has no value yet
pub record CellsWith (old new : File) (rd p : ℕ) : Type 0 where
  pub none : rd ≡ 0 → (new.cells ≡ old.cells) × (new.free ≡ old.free)
  pub named : 0 < rd → (new.cells ≡ slice_set old.cells p None) × IsNewestFree old p × (8 ≤ p) × (p < length old.cells)

-- an instruction with what its sources stood for in a context before its own register was named
pub record IsNamed (old : File) (c : ℕ) (o : Operands) (n : Renamed) : Type 0 where
  pub operands : n.operands ≡ o
  pub first : n.first ≡ mapped (bank old c) o.first
  pub second : n.second ≡ mapped (bank old c) o.second
  pub first_cell : n.first < length old.cells
  pub second_cell : n.second < length old.cells
  pub first_narrow : o.first < 32
  pub second_narrow : o.second < 32
  pub destination_narrow : o.destination < 32
