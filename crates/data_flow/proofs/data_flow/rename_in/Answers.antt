use Rattle.std.proofs.Common.{arith}
use Rattle.std.proofs.lemmas.Grind.{common_steps}
use Rattle.data_flow.proofs.data_flow.rename_in.Goals as goal

pub returns-clause-banks : goal.returns-clause-banks
returns-clause-banks g c = grind (arith, common_steps)

pub returns-clause-cells : goal.returns-clause-cells
returns-clause-cells g c = grind (arith, common_steps)
