use Rattle.checkpoint_file.proofs.CountLemmas.{ends}
use Rattle.checkpoint_file.proofs.reading.counts.number_at.Goals as goal

pub returns : goal.returns
returns c n rest low e = ends c.loop-rest.number n c.loop-rest.rest.now c.args.bytes.now rest c.in_default.len_below low c.loop-rest.invariant e
