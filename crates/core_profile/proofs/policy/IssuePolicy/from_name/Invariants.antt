use Rattle.std.proofs.Common.{◌≡◌, drop}
use Rattle.std.specs.List.{find}
use Rattle.std.specs.Str.{bytes_eq}
use Rattle.core_profile.specs.Policies.{issue_name, issue_named}
use Rattle.core_profile.proofs.policy.IssuePolicy.from_name.Given as goal

abbrev pub invariant-loop-policy : goal.invariant-loop-policy
invariant-loop-policy l = find (λ p. bytes_eq (issue_name p) l.name) (drop l.policy-index l.policy-items) ≡ issue_named l.name
