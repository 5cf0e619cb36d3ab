use Rattle.std.proofs.Common.{rules}
use Rattle.checkpoint_file.proofs.device.watched.Watched.new.Goals as goal

pub returns-clause-failed : goal.returns-clause-failed
returns-clause-failed g c = search rules
