-- How large a program may be: as large as a memory has room for.
use Rattle.std.specs.Prelude.{◌≤◌, length}
use Rattle.paged_memory.specs.Regions.{most_words, most_bytes}
use Rattle.rv64_asm.specs.ProgramValue.{ProgramValue}

-- at most 64 pages of text and 256 pages of data
abbrev pub IsWithinLimits : ProgramValue → Type 0
IsWithinLimits program = (length program.words ≤ most_words) × (length program.bytes ≤ most_bytes)
