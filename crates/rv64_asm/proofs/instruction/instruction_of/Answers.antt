use Rattle.rv64_asm.specs.Statements.{instruction_of}
use Rattle.rv64_asm.proofs.instruction.instruction_of.Goals as goal

pub returns-in-Neg : goal.returns-in-Neg
unfolding instruction_of
returns-in-Neg c = rw c.in-Neg.is c.from_zero.ensures
