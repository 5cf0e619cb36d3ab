use Rattle.join_law.specs.Tree.{leaves}
use Rattle.join_law.proofs.JoinLemmas.{IsJoinOfSet-join}
use Rattle.join_law.proofs.MergedTree.{IsJoinOf-merged}
use Rattle.join_law.proofs.merges.fold_tree.Goals as goal

pub returns-clause-joined : goal.returns-clause-joined
returns-clause-joined g c = rw c.merge.ensures (IsJoinOf-merged g.met.J.Join.laws c.args.tree c.requires)

pub returns-clause-set_alone : goal.returns-clause-set_alone
returns-clause-set_alone g c =
    rw c.merge.ensures (IsJoinOfSet-join g.met.J.Join.laws (leaves c.args.tree) _ (IsJoinOf-merged g.met.J.Join.laws c.args.tree c.requires))
