use Rattle.std.proofs.Common.{rules}
use Rattle.hart_step.proofs.effect.execute.Goals as goal

pub returns-in-Store-clause-effect : goal.returns-in-Store-clause-effect
returns-in-Store-clause-effect c = search rules

pub returns-in-Ebreak-clause-effect : goal.returns-in-Ebreak-clause-effect
returns-in-Ebreak-clause-effect c = rw c.in-Ebreak.is
