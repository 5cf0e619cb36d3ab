use Rattle.std.proofs.Common.{rules}
use Rattle.load_store_queue.proofs.fault.QueueFaultDisplay.fmt.Goals as goal

pub returns-clause-writes : goal.returns-clause-writes
returns-clause-writes g c = search rules
