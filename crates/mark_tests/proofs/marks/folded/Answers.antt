use Rattle.std.specs.Arc.{arc_value}
use Rattle.checkpoint.proofs.Laws.{AreMarksOf-kin}
use Rattle.join_law.specs.Tree.{leaves}
use Rattle.mark_tests.proofs.marks.folded.Goals as goal

pub furthest_leaf_each-requires : goal.furthest_leaf_each-requires
furthest_leaf_each-requires g c = AreMarksOf-kin (arc_value c.args.origin.now) (leaves c.args.tree) c.requires
