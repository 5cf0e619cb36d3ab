use Rattle.std.proofs.Common.{◌≡◌, drop}
use Rattle.std.specs.List.{find}
use Rattle.std.specs.Str.{bytes_eq}
use Rattle.core_profile.specs.Tables as spec
use Rattle.core_profile.proofs.key.Key.from_name.Given as goal

abbrev pub invariant-loop-key : goal.invariant-loop-key
invariant-loop-key l = find (λ k. bytes_eq (spec.name_of k) l.name) (drop l.key-index l.key-items) ≡ spec.key_named l.name
