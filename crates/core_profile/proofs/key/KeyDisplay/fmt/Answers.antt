use Rattle.std.proofs.Common.{rules}
use Rattle.core_profile.proofs.key.KeyDisplay.fmt.Goals as goal

pub returns-clause-writes : goal.returns-clause-writes
returns-clause-writes g c = search rules
