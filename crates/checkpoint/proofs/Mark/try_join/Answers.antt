use Rattle.std.proofs.Common.{refl}
use Rattle.checkpoint.proofs.FurthestLemmas.{IsFurthest-further}
use Rattle.checkpoint.proofs.Mark.try_join.Goals as goal

pub returns-in-Some-clause-refused : goal.returns-in-Some-clause-refused
returns-in-Some-clause-refused g c = (refl, refl, c.in-Some.ensures.some)

pub returns-in-None-clause-joined : goal.returns-in-None-clause-joined
returns-in-None-clause-joined g c = (c.in-None.ensures.none, c.join.ensures)

pub returns-in-None-clause-furthest : goal.returns-in-None-clause-furthest
returns-in-None-clause-furthest g c = λ origin context n m p q. rw c.join.ensures (IsFurthest-further origin context n m _ _ p q)
