use Rattle.std.proofs.Common.{rules}
use Rattle.issue_queue.proofs.queue.Queue.capacity.Goals as goal

pub returns-clause-value : goal.returns-clause-value
returns-clause-value c = search rules
