use Rattle.std.specs.Arc.{arc_value}
use Rattle.checkpoint.specs.Aligned.{AreMarksOf}
use Rattle.mark_tests.proofs.Merged.{all_merged}
use Rattle.mark_tests.proofs.marks.two.Goals as goal

pub returns : goal.returns
returns g c =
    let left = c.leaf-left in
    let right = c.leaf in
    all_merged (AreMarksOf (arc_value c.args.origin.now)) left.result right.result c.merge.result c.merge.ensures left.ensures right.ensures
