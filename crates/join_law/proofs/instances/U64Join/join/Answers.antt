use Rattle.join_law.proofs.instances.U64Join.join.Goals as goal

pub returns : goal.returns
returns c = c.greater.ensures
