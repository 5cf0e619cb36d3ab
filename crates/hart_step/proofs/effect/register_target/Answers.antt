use Rattle.std.proofs.Common.{rules}
use Rattle.hart_step.proofs.effect.register_target.Goals as goal

pub returns : goal.returns
returns c = search rules
