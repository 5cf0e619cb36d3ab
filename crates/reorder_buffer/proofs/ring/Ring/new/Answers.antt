use Rattle.std.proofs.Common.{rules}
use Rattle.reorder_buffer.proofs.ring.Ring.new.Goals as goal

pub returns-clause-ok : goal.returns-clause-ok
returns-clause-ok g c = search rules
