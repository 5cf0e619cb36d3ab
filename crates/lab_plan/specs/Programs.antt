-- The programs of a plan.
use Rattle.std.specs.Prelude.{◌≡◌, ℕ, List, [], Some, unwrap_or, codes}
use Rattle.std.specs.Str.Lines.{lines}
use Rattle.toml.specs.Data.{Data, Members, get_member, as_str}
use Rattle.core_profile.specs.Tables.{IsBefore}
use Rattle.rv64_asm.specs.declared.fault.LineFault.{LineFault}
use Rattle.rv64_asm.specs.declared.fault.AsmFault.TheVariants.{At}
use Rattle.rv64_asm.specs.Assembled.{IsAssembly, IsRefusal}
use Rattle.rv64_asm.specs.Label.{Label}
use Rattle.rv64_asm.specs.ProgramValue.{ProgramValue}
use Rattle.lab_plan.specs.Parts.{table_at}

-- `programs`
abbrev pub programs_at : Members → Members
programs_at doc = table_at (codes "programs") doc

-- the text of a program
abbrev pub text_of : Data → List ℕ
text_of d = unwrap_or (as_str d) []

-- the program is what a value's text assembles to
abbrev pub IsProgramOf : Data → ProgramValue → Type 0
IsProgramOf d program = (labels : List Label) × IsAssembly (lines (text_of d)) program labels

-- a value's text assembles
abbrev pub Assembles : Data → Type 0
Assembles d = (program : ProgramValue) × IsProgramOf d program

-- each program assembles, whether a context names it or not
abbrev pub AllAssemble : Members → Type 0
AllAssemble ms = (name : List ℕ) (d : Data) → get_member name ms ≡ Some d → Assembles d

-- the program of this name has the fault at this line, and each whose name comes before it in byte order assembles
pub record IsFirstProgramFault (ms : Members) (name : List ℕ) (fault : LineFault) (line : ℕ) : Type 0 where
  pub value : Data
  pub here : get_member name ms ≡ Some value
  pub refused : IsRefusal (lines (text_of value)) (At fault line)
  pub first : (other : List ℕ) (d : Data) → IsBefore other name → get_member other ms ≡ Some d → Assembles d
