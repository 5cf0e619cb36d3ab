use Rattle.std.proofs.Common.{ap}
use Rattle.checkpoint.proofs.MarkLemmas.{is_equal}
use Rattle.checkpoint.specs.MarkValue.{MarkValue}
use Rattle.checkpoint.proofs.Mark.same_context.Goals as goal

pub returns : goal.returns
returns g c = is_equal _ _ _ _ _ c.eq.ensures (ap (λ (mark : MarkValue). mark.context) c.self.view_is) (ap (λ (mark : MarkValue). mark.context) c.other.view_is)
