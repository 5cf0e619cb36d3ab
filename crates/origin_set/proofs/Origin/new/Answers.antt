use Rattle.std.proofs.Common.{refl}
use Rattle.origin_set.specs.Limits.{IsWithinLimits}
use Rattle.origin_set.proofs.Fitting.{true_all, false_none}
use Rattle.origin_set.proofs.Origin.new.Goals as goal

pub invariant_of-result : goal.invariant_of-result
invariant_of-result g c = c.are_within_limits.ensures.0 c.if-are_within_limits.true

pub returns-then-are_within_limits-clause-fits : goal.returns-then-are_within_limits-clause-fits
returns-then-are_within_limits-clause-fits g c =
    (λ _. true_all IsWithinLimits _ _ _ c.from_array-programs.ensures c.are_within_limits.ensures c.if-are_within_limits.true, λ _. refl)

pub returns-else-are_within_limits-clause-fits : goal.returns-else-are_within_limits-clause-fits
returns-else-are_within_limits-clause-fits g c =
    (λ e. absurd (cc), false_none IsWithinLimits _ _ _ c.from_array-programs.ensures c.are_within_limits.ensures c.if-are_within_limits.false)

pub returns-else-are_within_limits-clause-err : goal.returns-else-are_within_limits-clause-err
returns-else-are_within_limits-clause-err g c = refl
