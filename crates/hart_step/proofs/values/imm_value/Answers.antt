use Rattle.std.proofs.Common.{rules}
use Rattle.hart_step.proofs.values.imm_value.Goals as goal

pub returns-in-SetLessUnsigned : goal.returns-in-SetLessUnsigned
returns-in-SetLessUnsigned c = search rules
