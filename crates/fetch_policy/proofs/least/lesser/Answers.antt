use Rattle.fetch_policy.proofs.Lanes.{lesser_in}
use Rattle.fetch_policy.proofs.least.lesser.Goals as goal

pub returns : goal.returns
returns c i lt = lesser_in c.args.first c.args.second i c.fits-first.0 c.fits-second.0 lt
