use Rattle.std.proofs.Common.{rules}
use Rattle.issue_queue.proofs.queue.Queue.is_full.Goals as goal

pub returns : goal.returns
returns c = search rules
