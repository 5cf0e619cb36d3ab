-- The codes that faults are printed by.
use Rattle.std.specs.Prelude.{ℕ, List, ◌++◌, codes}
use Rattle.std.specs.Fmt.{decimal}
use Rattle.rv64_asm.specs.declared.fault.LineFault.{LineFault}
use Rattle.rv64_asm.specs.declared.fault.LineFault.TheVariants.{UnknownWord, OperandForm, OutOfRange, UnknownLabel, LabelTwice, OffsetOutOfRange, TooManyPages}
use Rattle.rv64_asm.specs.declared.fault.AsmFault.{AsmFault}
use Rattle.rv64_asm.specs.declared.fault.AsmFault.TheVariants.{At, OutOfMemory}

-- the code of a line's fault
abbrev pub code_of : LineFault → List ℕ
code_of UnknownWord = codes "A1"
code_of OperandForm = codes "A2"
code_of OutOfRange = codes "A3"
code_of UnknownLabel = codes "A4"
code_of LabelTwice = codes "A5"
code_of OffsetOutOfRange = codes "A6"
code_of TooManyPages = codes "A7"

-- the code, and the line where there is one
abbrev pub fault_text : AsmFault → List ℕ
fault_text (At fault line) = code_of fault ++ codes " line " ++ decimal line
fault_text OutOfMemory = codes "A8"
