use Rattle.paged_memory.specs.Regions.{data_start}
use Rattle.paged_memory.specs.Start.{data_byte}
use Rattle.paged_memory.proofs.Filled.{IsFilled}
use Rattle.paged_memory.proofs.starting.data_page.Given as goal

abbrev pub invariant-loop-i : goal.invariant-loop-i
invariant-loop-i l = IsFilled data_start (data_byte l.bytes) l.p (l.i) l.page
