use Rattle.core_back.proofs.CompletedTurns.{IsTurned, to_do}
use Rattle.core_back.proofs.completing.complete.Given as goal

abbrev pub invariant-loop-left : goal.invariant-loop-left
invariant-loop-left g l = IsTurned l.fn.machine l.machine l.left l.completed l.cut

abbrev pub decreases-loop-left : goal.decreases-loop-left
decreases-loop-left g l = to_do l.fn.machine.view.cycle l.machine l.left
