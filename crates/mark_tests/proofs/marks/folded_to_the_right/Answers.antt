use Rattle.std.specs.Arc.{arc_value}
use Rattle.checkpoint.specs.Aligned.{AreMarksOf}
use Rattle.mark_tests.proofs.Merged.{all_merged}
use Rattle.mark_tests.proofs.marks.folded_to_the_right.Goals as goal

pub folded-requires : goal.folded-requires
folded-requires g c =
    let left = c.leaf-first in
    let right = c.two-both in
    all_merged (AreMarksOf (arc_value c.args.origin.now)) left.result right.result c.merge.result c.merge.ensures left.ensures right.ensures
