use Rattle.core_back.specs.First.{AreSet}
use Rattle.core_back.proofs.first.set_registers.Given as goal

abbrev pub invariant-loop-number : goal.invariant-loop-number
invariant-loop-number g l = AreSet l.initial.flow l.context l.registers l.number l.flow
