use Rattle.std.specs.Arc.{arc_value}
use Rattle.std.proofs.Common.{sym, ◌∙◌}
use Rattle.mark_tests.proofs.Merged.{kin_of_marks}
use Rattle.mark_tests.proofs.marks.furthest_of_list.Goals as goal

pub furthest-requires : goal.furthest-requires
furthest-requires g c =
    let x = c.mark_at-first in
    let y = c.mark_at in
    kin_of_marks (arc_value c.args.origin.now) x.result y.result c.listed-others.result.items
    x.ensures.origin y.ensures.origin (x.ensures.context ∙ sym y.ensures.context) c.listed-others.ensures
