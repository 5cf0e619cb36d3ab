use Rattle.join_law.specs.Tree.{leaves}
use Rattle.checkpoint.proofs.BestLemmas.{IsBest-join}
use Rattle.checkpoint.proofs.best.furthest_leaf.Goals as goal

pub fold_tree-requires : goal.fold_tree-requires
fold_tree-requires g c = c.requires

pub returns : goal.returns
returns g c = IsBest-join (leaves c.args.tree) c.fold_tree.result c.fold_tree.ensures.joined
