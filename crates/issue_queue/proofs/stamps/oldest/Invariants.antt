use Rattle.std.specs.Prelude.{count_ones}
use Rattle.issue_queue.proofs.Walks.{IsLeast}
use Rattle.issue_queue.proofs.stamps.oldest.Given as goal

abbrev pub invariant-loop-left : goal.invariant-loop-left
invariant-loop-left l = IsLeast l.slots l.word l.left l.least

abbrev pub decreases-loop-left : goal.decreases-loop-left
decreases-loop-left l = count_ones l.left
