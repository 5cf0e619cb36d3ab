use Rattle.fetch_policy.proofs.Lanes.{full_left_out, others_left}
use Rattle.fetch_policy.proofs.least.without_full.Goals as goal

pub returns-clause-full : goal.returns-clause-full
returns-clause-full c n lt full = full_left_out c.args.counts.now c.args.fetched.now n c.told-counts c.told-fetched lt full

pub returns-clause-others : goal.returns-clause-others
returns-clause-others c n lt room = others_left c.args.counts.now c.args.fetched.now n c.told-counts c.told-fetched lt room
