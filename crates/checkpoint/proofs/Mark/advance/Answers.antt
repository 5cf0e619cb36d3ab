use Rattle.checkpoint.proofs.FurthestLemmas.{IsFurthest-started}
use Rattle.checkpoint.proofs.Mark.advance.Goals as goal

pub returns-clause-ok : goal.returns-clause-ok
returns-clause-ok g c = c.run.ensures

pub returns-clause-furthest : goal.returns-clause-furthest
returns-clause-furthest g c = IsFurthest-started _ _ _ _ _ c.run.ensures

pub returns-clause-err : goal.returns-clause-err
returns-clause-err g c = tt
