use Rattle.origin_set.proofs.fault.OriginFaultDisplay.fmt.Goals as goal

pub returns-in-TooManyPages-clause-writes : goal.returns-in-TooManyPages-clause-writes
returns-in-TooManyPages-clause-writes g c = rw c.in-TooManyPages.is c.write.ensures.writes
