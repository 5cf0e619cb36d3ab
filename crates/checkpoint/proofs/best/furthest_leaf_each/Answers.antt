use Rattle.join_law.specs.Tree.{leaves}
use Rattle.checkpoint.proofs.BestLemmas.{AreBest-join}
use Rattle.checkpoint.proofs.best.furthest_leaf_each.Goals as goal

pub fold_eights-requires : goal.fold_eights-requires
fold_eights-requires g c = c.requires

pub returns : goal.returns
returns g c = AreBest-join (leaves c.args.tree) c.fold_eights.result c.fold_eights.ensures
