use Rattle.std.proofs.Common.{rules}
use Rattle.worker_pool.proofs.fault.PoolFaultDisplay.fmt.Goals as goal

pub returns-in-OutOfMemory-clause-writes : goal.returns-in-OutOfMemory-clause-writes
returns-in-OutOfMemory-clause-writes g c = search rules

pub returns-in-Workers-clause-writes : goal.returns-in-Workers-clause-writes
returns-in-Workers-clause-writes g c = search rules
