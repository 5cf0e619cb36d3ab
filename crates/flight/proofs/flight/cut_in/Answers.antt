use Rattle.flight.proofs.flight.cut_in.Goals as goal

pub returns-clause-below : goal.returns-clause-below
returns-clause-below g c = c.cut_past.ensures.below
