-- What the assembler makes of a text, or the text's fault.
use Rattle.std.specs.Prelude.{◌≡◌, ℕ, ◌+◌, ◌<◌, ◌⊎◌, List, length, Some, None}
use Rattle.rv64_asm.specs.declared.fault.LineFault.{LineFault}
use Rattle.rv64_asm.specs.declared.fault.AsmFault.{AsmFault}
use Rattle.rv64_asm.specs.declared.fault.AsmFault.TheVariants.{At, OutOfMemory}
use Rattle.rv64_asm.specs.ProgramValue.{ProgramValue}
use Rattle.rv64_asm.specs.Label.{Label}
use Rattle.rv64_asm.specs.Places.{behind, StandBelow, IsLowestFault}
use Rattle.rv64_asm.specs.Written.{WrittenBelow, HasTargetFault}

-- what every line gives stands at the line's place, and there is nothing else
pub record IsProgram (lines : List (List ℕ)) (labels : List Label) (program : ProgramValue) : Type 0 where
  pub written : WrittenBelow lines labels program.words program.bytes (length lines)
  pub word_count : length program.words ≡ (behind lines).place.words
  pub byte_count : length program.bytes ≡ (behind lines).place.bytes

-- every line stands, the program is what the lines give, and the labels are theirs in order
pub record IsAssembly (lines : List (List ℕ)) (program : ProgramValue) (labels : List Label) : Type 0 where
  pub stand : StandBelow lines (length lines)
  pub is_program : IsProgram lines labels program
  pub labels_are : labels ≡ (behind lines).labels

-- every line stands by itself and those before it, and line k is the lowest whose target has a fault
pub record IsTargetFault (lines : List (List ℕ)) (fault : LineFault) (k : ℕ) : Type 0 where
  pub stand : StandBelow lines (length lines)
  pub reach : (j : ℕ) → j < k → HasTargetFault lines (behind lines).labels j None
  pub has_fault : HasTargetFault lines (behind lines).labels k (Some fault)

-- the fault of a text, its line counted from 1: the lowest line with a fault by itself and those before it, or, where
-- there is none, the lowest line whose target has one
abbrev pub IsRefusal : List (List ℕ) → AsmFault → Type 0
IsRefusal lines (At fault number) = (k : ℕ) × (number ≡ k + 1) × (IsLowestFault lines fault k ⊎ IsTargetFault lines fault k)
IsRefusal lines OutOfMemory = Unit {0}
