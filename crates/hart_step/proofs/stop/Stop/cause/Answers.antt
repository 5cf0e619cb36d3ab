use Rattle.hart_step.proofs.stop.Stop.cause.Goals as goal

pub returns-in-LoadMisaligned : goal.returns-in-LoadMisaligned
returns-in-LoadMisaligned c = rw c.in-LoadMisaligned.is
