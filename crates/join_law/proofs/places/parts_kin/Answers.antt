use Rattle.std.proofs.Common.{rules}
use Rattle.join_law.proofs.places.parts_kin.Goals as goal

pub returns-then-kin-7 : goal.returns-then-kin-7
returns-then-kin-7 g c = search rules
