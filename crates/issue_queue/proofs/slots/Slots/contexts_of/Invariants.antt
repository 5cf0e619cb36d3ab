use Rattle.std.specs.Prelude.{count_ones}
use Rattle.issue_queue.proofs.Walks.{AreGathered}
use Rattle.issue_queue.proofs.slots.Slots.contexts_of.Given as goal

abbrev pub invariant-loop-left : goal.invariant-loop-left
invariant-loop-left l = AreGathered l.self l.word l.left l.contexts

abbrev pub decreases-loop-left : goal.decreases-loop-left
decreases-loop-left l = count_ones l.left
