use Rattle.std.proofs.Common.{length}
use Rattle.checkpoint_file.proofs.PageLemmas.{Goes}
use Rattle.checkpoint_file.proofs.reading.pages.pages_at.Given as goal

abbrev pub invariant-loop-address : goal.invariant-loop-address
invariant-loop-address l = Goes l.bytes l.least l.rest

abbrev pub decreases-loop-address : goal.decreases-loop-address
decreases-loop-address l = length l.rest
