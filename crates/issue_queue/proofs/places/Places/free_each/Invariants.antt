use Rattle.std.specs.Prelude.{true, count_ones}
use Rattle.issue_queue.proofs.Walks.{IsCut}
use Rattle.issue_queue.proofs.places.Places.free_each.Given as goal

abbrev pub invariant-loop-left : goal.invariant-loop-left
invariant-loop-left l = IsCut l.initial.self l.self l.word (λ e. true) l.left

abbrev pub decreases-loop-left : goal.decreases-loop-left
decreases-loop-left l = count_ones l.left
