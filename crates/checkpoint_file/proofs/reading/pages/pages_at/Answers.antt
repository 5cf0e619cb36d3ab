use Rattle.checkpoint_file.proofs.PageLemmas.{no_pages}
use Rattle.checkpoint_file.proofs.reading.pages.pages_at.Goals as goal

pub returns-in-End-clause-only : goal.returns-in-End-clause-only
returns-in-End-clause-only c rest stop h =
    no_pages c.loop-address.least c.loop-address.rest.now rest c.in-End.ensures (c.loop-address.invariant.on rest stop h)

pub returns-in-Fault-clause-only : goal.returns-in-Fault-clause-only
returns-in-Fault-clause-only c rest stop h = c.in-Fault.ensures rest stop (c.loop-address.invariant.on rest stop h)
