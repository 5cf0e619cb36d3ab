use Rattle.std.proofs.Common.{ap, ◌∙◌}
use Rattle.core_view.specs.Kinds.{kind_index}
use Rattle.flight.proofs.KindWords.{kinds-push}
use Rattle.flight.proofs.marks.push_kind.Goals as goal

pub returns : goal.returns
returns c es more is at = kinds-push es c.args.entry.now more _ _ _ _ is at (c.index-kind.ensures.index ∙ ap kind_index c.kind.ensures) c.index-kind.ensures.bound c.push.ensures
