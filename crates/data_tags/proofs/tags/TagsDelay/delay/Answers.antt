use Rattle.std.proofs.Common.{rules}
use Rattle.data_tags.proofs.tags.TagsDelay.delay.Goals as goal

pub returns-clause-state : goal.returns-clause-state
returns-clause-state g c = search rules
