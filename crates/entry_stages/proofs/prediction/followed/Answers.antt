use Rattle.std.proofs.Common.{rules}
use Rattle.entry_stages.proofs.prediction.followed.Goals as goal

pub returns-clause-follows : goal.returns-clause-follows
returns-clause-follows g c = search rules
