use Rattle.flight.proofs.flight.push_in.Goals as goal

pub returns : goal.returns
returns g c = rw c.in-Ok.is at c.push.ensures.ok
