use Rattle.std.proofs.Common.{ap, ◌∙◌}
use Rattle.checkpoint.proofs.MarkLemmas.{same_along}
use Rattle.checkpoint.specs.MarkValue.{MarkValue}
use Rattle.checkpoint.proofs.Mark.same_origin.Goals as goal

pub returns : goal.returns
returns g c = same_along _ _ _ _ (c.deref.ensures ∙ ap (λ (mark : MarkValue). mark.origin) c.self.view_is) (c.deref-2.ensures ∙ ap (λ (mark : MarkValue). mark.origin) c.other.view_is) c.same.ensures
