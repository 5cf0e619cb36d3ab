use Rattle.std.proofs.Common.{rules}
use Rattle.rename_file.proofs.fault.RenameFaultDisplay.fmt.Goals as goal

pub returns-in-NoneFree-clause-writes : goal.returns-in-NoneFree-clause-writes
returns-in-NoneFree-clause-writes g c = search rules
