use Rattle.std.proofs.Common.{arith}
use Rattle.std.proofs.lemmas.Grind.{common_steps}
use Rattle.lab_plan.proofs.origins.first_unknown.Goals as goal

pub loop-context-preserved : goal.loop-context-preserved
loop-context-preserved c = grind (arith, common_steps)
