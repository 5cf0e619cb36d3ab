use Rattle.std.proofs.Common.{rules}
use Rattle.hart_step.proofs.effect.destination.Goals as goal

pub returns-in-Lui-4 : goal.returns-in-Lui-4
returns-in-Lui-4 c = search rules
