use Rattle.std.proofs.Common.{rules}
use Rattle.reorder_buffer.proofs.fault.RingFaultDisplay.fmt.Goals as goal

pub returns-in-Full-clause-writes : goal.returns-in-Full-clause-writes
returns-in-Full-clause-writes g c = search rules
