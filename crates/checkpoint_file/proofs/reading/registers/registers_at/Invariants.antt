use Rattle.checkpoint_file.proofs.RegisterLemmas.{Goes}
use Rattle.checkpoint_file.proofs.reading.registers.registers_at.Given as goal

abbrev pub invariant-loop-number : goal.invariant-loop-number
invariant-loop-number l = Goes l.bytes l.number l.rest
