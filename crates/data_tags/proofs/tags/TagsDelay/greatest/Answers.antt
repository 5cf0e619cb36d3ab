use Rattle.std.proofs.Common.{rules}
use Rattle.data_tags.proofs.tags.TagsDelay.greatest.Goals as goal

pub returns-clause-value : goal.returns-clause-value
returns-clause-value g c = search rules
