use Rattle.std.proofs.Common.{ap}
use Rattle.checkpoint.proofs.MarkLemmas.{is_less}
use Rattle.checkpoint.specs.MarkValue.{MarkValue}
use Rattle.checkpoint.proofs.Mark.is_behind.Goals as goal

pub returns : goal.returns
returns g c = is_less _ _ _ _ (ap (λ (mark : MarkValue). mark.count) c.self.view_is) (ap (λ (mark : MarkValue). mark.count) c.other.view_is)
