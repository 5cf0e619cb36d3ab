use Rattle.core_back.proofs.retiring.with_dropped.Goals as goal

pub returns : goal.returns
returns c = c.add_dropped.ensures
