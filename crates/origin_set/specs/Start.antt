-- Where a context starts, in environment 1: all registers are 0, pc is the address of the first text page,
-- and the memory has the pages of the context's program.
use Rattle.std.specs.Prelude.{ℕ, Option, Some, None, [], replicate}
use Rattle.hart_step.specs.State.{State}
use Rattle.join_law.specs.Eight.{place_of}
use Rattle.origin_set.specs.OriginValue.{OriginValue}
use Rattle.paged_memory.specs.Cells.{Cells}
use Rattle.paged_memory.specs.Regions.{text_start}
use Rattle.paged_memory.specs.Start.{start_cells}
use Rattle.rv64_asm.specs.ProgramValue.{ProgramValue}

-- a context without a program has no pages
abbrev pub start_memory : Option ProgramValue → Cells
start_memory None = start_cells [] []
start_memory (Some program) = start_cells program.words program.bytes

-- the state of a context before its first instruction
abbrev pub start : OriginValue → ℕ → State
start origin context = record {
  registers = replicate 32 0;
  pc = text_start;
  memory = start_memory (place_of origin.programs context);
  environment = origin.environment;
}
