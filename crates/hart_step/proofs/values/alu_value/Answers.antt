use Rattle.std.proofs.Common.{rules}
use Rattle.hart_step.proofs.values.alu_value.Goals as goal

pub returns-in-ShiftLeft : goal.returns-in-ShiftLeft
returns-in-ShiftLeft c = search rules

pub returns-in-ShiftRightArithmetic : goal.returns-in-ShiftRightArithmetic
returns-in-ShiftRightArithmetic c = search rules
