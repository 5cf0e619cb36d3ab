-- How large the programs of an origin may be: each no larger than what the assembler makes.
use Rattle.std.specs.Prelude.{Option, Some, None, ⊤}
use Rattle.rv64_asm.specs.Limits as limits
use Rattle.rv64_asm.specs.ProgramValue.{ProgramValue}

-- a context without a program is within the limits
abbrev pub IsWithinLimits : Option ProgramValue → Type 0
IsWithinLimits None = ⊤
IsWithinLimits (Some program) = limits.IsWithinLimits program
