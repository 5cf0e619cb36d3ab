use Rattle.join_law.proofs.EightPlaces.{IsJoinOf-place}
use Rattle.join_law.proofs.eights.fold_eights.Goals as goal

pub fold_tree-requires : goal.fold_tree-requires
fold_tree-requires g c = c.requires

pub returns : goal.returns
returns g c = IsJoinOf-place g.J.Join.is_kin g.J.Join.joined _ _ c.fold_tree.ensures.joined
