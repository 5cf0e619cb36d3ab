use Rattle.std.proofs.Common.{rules}
use Rattle.core_profile.proofs.policy.IssuePolicy.from_name.Goals as goal

pub loop-policy-init : goal.loop-policy-init
loop-policy-init c = search rules
