use Rattle.std.proofs.Common.{rules}
use Rattle.hart_step.proofs.environment.Environment.number.Goals as goal

pub returns : goal.returns
returns c = search rules
