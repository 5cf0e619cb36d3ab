use Rattle.std.proofs.Common.{◌*◌}
use Rattle.paged_memory.specs.Regions.{text_start}
use Rattle.paged_memory.specs.Start.{text_byte}
use Rattle.paged_memory.proofs.Filled.{IsFilled}
use Rattle.paged_memory.proofs.starting.text_page.Given as goal

abbrev pub invariant-loop-i : goal.invariant-loop-i
invariant-loop-i l = IsFilled text_start (text_byte l.words) l.p (4 * l.i) l.page
