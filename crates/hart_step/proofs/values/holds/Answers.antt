use Rattle.std.proofs.Common.{rules}
use Rattle.hart_step.proofs.values.holds.Goals as goal

pub returns-in-NotLess : goal.returns-in-NotLess
returns-in-NotLess c = search rules
