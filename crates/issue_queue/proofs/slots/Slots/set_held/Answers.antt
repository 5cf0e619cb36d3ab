use Rattle.std.proofs.Common.{rules}
use Rattle.issue_queue.proofs.slots.Slots.set_held.Goals as goal

pub returns-clause-slots : goal.returns-clause-slots
returns-clause-slots c = search rules
