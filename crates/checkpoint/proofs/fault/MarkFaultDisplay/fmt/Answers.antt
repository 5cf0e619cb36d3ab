use Rattle.checkpoint.proofs.fault.MarkFaultDisplay.fmt.Goals as goal

pub returns-in-ForeignOrigin-clause-writes : goal.returns-in-ForeignOrigin-clause-writes
returns-in-ForeignOrigin-clause-writes g c = rw c.in-ForeignOrigin.is c.write.ensures.writes
