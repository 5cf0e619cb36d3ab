use Rattle.origin_set.proofs.first_hart.Goals as goal

pub returns : goal.returns
returns g c = c.new.ensures.is
