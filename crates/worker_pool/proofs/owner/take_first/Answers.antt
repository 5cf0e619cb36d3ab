use Rattle.worker_pool.proofs.Kept.{steals, finds}
use Rattle.worker_pool.proofs.owner.take_first.Goals as goal

pub pop_as-requires-clause-fifo : goal.pop_as-requires-clause-fifo
pop_as-requires-clause-fifo c = λ _. steals _ _ c.requires.part

pub pop_as-requires-clause-empty : goal.pop_as-requires-clause-empty
pop_as-requires-clause-empty c = finds _ _
