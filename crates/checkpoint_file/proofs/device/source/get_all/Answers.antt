use Rattle.std.proofs.Common.{arith}
use Rattle.std.proofs.lemmas.Grind.{common_steps}
use Rattle.checkpoint_file.proofs.device.source.get_all.Goals as goal

pub returns-then-count-len-clause-err : goal.returns-then-count-len-clause-err
returns-then-count-len-clause-err g c = grind (arith, common_steps)
