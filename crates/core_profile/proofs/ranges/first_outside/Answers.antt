use Rattle.std.proofs.Common.{not, option_map, ap}
use Rattle.std.specs.Prelude.{find}
use Rattle.core_profile.specs.Tables.{allows, range_of}
use Rattle.core_profile.proofs.ranges.first_outside.Goals as goal

pub loop-key-init : goal.loop-key-init
loop-key-init c = ap (λ rs. option_map (λ r. r.0) (find (λ r. not (allows (range_of r.0) r.1)) rs)) c.numbers-key-items.ensures
