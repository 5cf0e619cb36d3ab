use Rattle.checkpoint.proofs.MarkLemmas.{not_tested}
use Rattle.checkpoint.proofs.Mark.unjoinable.Goals as goal

pub returns-then-not-same_origin-clause-some : goal.returns-then-not-same_origin-clause-some
returns-then-not-same_origin-clause-some g c = not_tested c.if-not-same_origin.ensures
