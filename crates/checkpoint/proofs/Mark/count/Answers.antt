use Rattle.std.proofs.Common.{ap}
use Rattle.checkpoint.specs.MarkValue.{MarkValue}
use Rattle.checkpoint.proofs.Mark.count.Goals as goal

pub returns-clause-value : goal.returns-clause-value
returns-clause-value g c = ap (λ (mark : MarkValue). mark.count) c.self.view_is
