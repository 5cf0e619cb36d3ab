use Rattle.core_back.specs.First.{AreFirstLanes}
use Rattle.core_back.proofs.first.first_flow.Given as goal

abbrev pub invariant-loop-number : goal.invariant-loop-number
invariant-loop-number g l = AreFirstLanes l.profile l.marks l.number l.flow
