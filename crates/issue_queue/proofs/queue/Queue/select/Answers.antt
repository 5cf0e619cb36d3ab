use Rattle.issue_queue.proofs.queue.Queue.select.Goals as goal

pub returns : goal.returns
returns g c = record { capacity = c.select_into.ensures.capacity; selected = c.select_into.ensures.selected }
