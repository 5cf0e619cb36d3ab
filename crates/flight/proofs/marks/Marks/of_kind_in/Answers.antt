use Rattle.core_view.specs.Kinds.{kind_index}
use Rattle.flight.proofs.KindWords.{of-kind-and}
use Rattle.flight.proofs.marks.Marks.of_kind_in.Goals as goal

pub returns : goal.returns
returns c es test both is word each = of-kind-and (kind_index c.args.kind) test both each es c.of_kind.result c.args.word (c.of_kind.ensures es is) word
