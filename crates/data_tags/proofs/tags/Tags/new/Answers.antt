use Rattle.std.proofs.Common.{rules}
use Rattle.data_tags.proofs.tags.Tags.new.Goals as goal

pub returns : goal.returns
returns g c = search rules
