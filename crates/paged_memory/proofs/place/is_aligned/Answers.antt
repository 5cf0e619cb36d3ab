use Rattle.paged_memory.proofs.Aligned.{aligned}
use Rattle.paged_memory.proofs.place.is_aligned.Goals as goal

pub returns : goal.returns
returns c = aligned c.args.width c.args.address c.low_bits.result c.low_bits.ensures
