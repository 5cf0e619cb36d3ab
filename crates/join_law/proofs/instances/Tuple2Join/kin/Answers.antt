use Rattle.std.proofs.Common.{rules}
use Rattle.join_law.proofs.instances.Tuple2Join.kin.Goals as goal

pub returns-then-kin : goal.returns-then-kin
returns-then-kin g c = search rules

pub returns-else-kin : goal.returns-else-kin
returns-else-kin g c = search rules
