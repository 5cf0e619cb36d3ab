use Rattle.core_view.specs.Kinds.{kind_index}
use Rattle.flight.proofs.KindWords.{of-kind-but}
use Rattle.flight.proofs.marks.Marks.of_kind_but.Goals as goal

pub returns : goal.returns
returns c es test rest is few word each = of-kind-but (kind_index c.args.kind) test rest each es c.of_kind.result c.args.word few (c.of_kind.ensures es is) word
