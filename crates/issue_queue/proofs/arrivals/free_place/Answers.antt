use Rattle.std.proofs.Common.{rules}
use Rattle.issue_queue.proofs.arrivals.free_place.Goals as goal

pub returns-else-free-eq0-clause-free : goal.returns-else-free-eq0-clause-free
returns-else-free-eq0-clause-free c = search rules
