use Rattle.std.proofs.Common.{◌∷◌}
use Rattle.checkpoint.proofs.BestLemmas.{AreBest-join}
use Rattle.checkpoint.proofs.best.furthest_each.Goals as goal

pub join_eights-requires : goal.join_eights-requires
join_eights-requires g c = c.requires

pub returns : goal.returns
returns g c = AreBest-join (c.args.first ∷ c.args.others.items) c.join_eights.result c.join_eights.ensures
