use Rattle.std.proofs.Common.{rules}
use Rattle.hart_step.proofs.effect.second_source.Goals as goal

pub returns-in-Branch : goal.returns-in-Branch
returns-in-Branch c = search rules
