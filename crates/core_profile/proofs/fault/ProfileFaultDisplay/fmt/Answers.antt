use Rattle.std.proofs.Common.{rules}
use Rattle.core_profile.proofs.fault.ProfileFaultDisplay.fmt.Goals as goal

pub returns-in-OutOfRange-clause-writes : goal.returns-in-OutOfRange-clause-writes
returns-in-OutOfRange-clause-writes g c = search rules
