use Rattle.std.proofs.Common.{rules}
use Rattle.issue_queue.proofs.slots.clear_sources.Goals as goal

pub returns : goal.returns
returns c = search rules
