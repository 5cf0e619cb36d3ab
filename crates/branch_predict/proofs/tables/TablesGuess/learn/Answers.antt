use Rattle.std.proofs.Common.{arith}
use Rattle.std.proofs.lemmas.Grind.{common_steps}
use Rattle.branch_predict.proofs.tables.TablesGuess.learn.Goals as goal

pub returns : goal.returns
returns g c = grind (arith, common_steps)
