use Rattle.std.proofs.Common.{rules}
use Rattle.core_profile.proofs.table.issue_at.Goals as goal

pub returns-in-Some-as_str : goal.returns-in-Some-as_str
returns-in-Some-as_str c = search rules
