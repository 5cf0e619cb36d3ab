use Rattle.std.specs.Prelude.{count_ones}
use Rattle.issue_queue.proofs.Walks.{IsOlder}
use Rattle.issue_queue.proofs.stamps.older.Given as goal

abbrev pub invariant-loop-left : goal.invariant-loop-left
invariant-loop-left l = IsOlder l.slots l.word l.left l.older l.stamp

abbrev pub decreases-loop-left : goal.decreases-loop-left
decreases-loop-left l = count_ones l.left
