use Rattle.fetch_policy.proofs.Lanes.{rank_at}
use Rattle.fetch_policy.proofs.least.ranks.Goals as goal

pub returns : goal.returns
returns c n lt = rank_at c.args.counts.now c.args.cycle n c.told-counts lt (c.requires n lt)
