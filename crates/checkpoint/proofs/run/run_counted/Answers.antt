use Rattle.std.proofs.Common.{refl}
use Rattle.checkpoint.proofs.run.run_counted.Goals as goal

pub returns-clause-count : goal.returns-clause-count
returns-clause-count g c = refl
