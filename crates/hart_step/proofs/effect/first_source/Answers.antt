use Rattle.std.proofs.Common.{rules}
use Rattle.hart_step.proofs.effect.first_source.Goals as goal

pub returns-in-Jalr-10 : goal.returns-in-Jalr-10
returns-in-Jalr-10 c = search rules
