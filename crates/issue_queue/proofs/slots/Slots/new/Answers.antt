use Rattle.issue_queue.proofs.Masks.{zeros}
use Rattle.issue_queue.proofs.slots.Slots.new.Goals as goal

pub returns-clause-waiters : goal.returns-clause-waiters
returns-clause-waiters c = λ r below. zeros 480 r below
