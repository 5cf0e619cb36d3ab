use Rattle.std.proofs.Common.{rules}
use Rattle.core_profile.proofs.key.Key.name.Goals as goal

pub returns-in-Num2 : goal.returns-in-Num2
returns-in-Num2 c = search rules
