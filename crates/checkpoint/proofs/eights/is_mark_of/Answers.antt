use Rattle.std.proofs.Common.{◌∙◌}
use Rattle.checkpoint.proofs.AlignedLemmas.{is_mark_along}
use Rattle.checkpoint.proofs.MarkLemmas.{tested}
use Rattle.checkpoint.proofs.eights.is_mark_of.Goals as goal

pub returns-then-same_origin : goal.returns-then-same_origin
returns-then-same_origin g c = is_mark_along _ _ _ _ (tested c.if-same_origin.ensures) (c.index.ensures.value ∙ c.context.ensures)
