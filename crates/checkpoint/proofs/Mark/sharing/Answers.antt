use Rattle.std.proofs.Common.{◌∙◌}
use Rattle.checkpoint.proofs.MarkLemmas.{with_origin, reached_with}
use Rattle.checkpoint.proofs.Mark.sharing.Goals as goal

pub from_core-requires-clause-bound : goal.from_core-requires-clause-bound
from_core-requires-clause-bound g c = c.requires.bound

pub from_core-requires-clause-reached : goal.from_core-requires-clause-reached
from_core-requires-clause-reached g c = reached_with _ _ c.args.context c.args.count c.in-Ok.ensures _ c.requires.reached

pub returns-in-Ok-clause-ok : goal.returns-in-Ok-clause-ok
returns-in-Ok-clause-ok g c = c.from_core.ensures ∙ with_origin _ _ c.args.context c.args.count c.in-Ok.ensures
