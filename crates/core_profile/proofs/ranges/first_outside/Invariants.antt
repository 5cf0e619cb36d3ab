use Rattle.std.proofs.Common.{◌≡◌, not, drop, option_map}
use Rattle.std.specs.Prelude.{find}
use Rattle.core_profile.specs.Fields as spec
use Rattle.core_profile.specs.Tables.{allows, range_of}
use Rattle.core_profile.proofs.ranges.first_outside.Given as goal

abbrev pub invariant-loop-key : goal.invariant-loop-key
invariant-loop-key l = option_map (λ r. r.0) (find (λ r. not (allows (range_of r.0) r.1)) (drop l.key-index l.key-items)) ≡ spec.first_outside l.fields
