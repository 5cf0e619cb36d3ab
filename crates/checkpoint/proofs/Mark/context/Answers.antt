use Rattle.std.proofs.Common.{ap}
use Rattle.checkpoint.specs.MarkValue.{MarkValue}
use Rattle.checkpoint.proofs.Mark.context.Goals as goal

pub returns : goal.returns
returns g c = ap (λ (mark : MarkValue). mark.context) c.self.view_is
