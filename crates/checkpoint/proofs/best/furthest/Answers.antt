use Rattle.std.proofs.Common.{◌∷◌}
use Rattle.checkpoint.proofs.BestLemmas.{IsBest-join}
use Rattle.checkpoint.proofs.best.furthest.Goals as goal

pub join_all-requires : goal.join_all-requires
join_all-requires g c = c.requires

pub returns : goal.returns
returns g c = IsBest-join (c.args.first ∷ c.args.others.items) c.join_all.result c.join_all.ensures.joined
