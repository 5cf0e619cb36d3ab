use Rattle.std.specs.Arc.{arc_value}
use Rattle.mark_tests.proofs.Merged.{kin_of_eights}
use Rattle.mark_tests.proofs.marks.furthest_counts.Goals as goal

pub furthest_each-requires : goal.furthest_each-requires
furthest_each-requires g c = kin_of_eights (arc_value c.args.origin.now) c.grid-first.result c.grid.result c.listed-others.result.items c.grid-first.ensures c.grid.ensures c.listed-others.ensures
