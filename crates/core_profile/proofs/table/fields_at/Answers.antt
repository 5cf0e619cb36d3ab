use Rattle.std.proofs.Common.{rules}
use Rattle.core_profile.proofs.table.fields_at.Goals as goal

pub returns : goal.returns
returns c = search rules
