use Rattle.std.proofs.Common.{◌≡◌, drop}
use Rattle.std.specs.List.{find}
use Rattle.std.specs.Str.{bytes_eq}
use Rattle.core_profile.specs.Policies.{fetch_name, fetch_named}
use Rattle.core_profile.proofs.policy.FetchPolicy.from_name.Given as goal

abbrev pub invariant-loop-policy : goal.invariant-loop-policy
invariant-loop-policy l = find (λ p. bytes_eq (fetch_name p) l.name) (drop l.policy-index l.policy-items) ≡ fetch_named l.name
