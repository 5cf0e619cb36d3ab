use Rattle.issue_queue.proofs.slots.Slots.at.Goals as goal

pub returns : goal.returns
returns c = c.read.ensures
