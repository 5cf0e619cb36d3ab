use Rattle.std.proofs.Common.{◌≡◌, ℕ, refl, sym, ap, ◌∙◌, subst}
use Rattle.std.specs.Prelude.{Option, Some, None}
use Rattle.core_view.specs.declared.outcome.Step.{Step}
use Rattle.core_view.specs.declared.outcome.Outcome.{Outcome}
use Rattle.core_view.specs.declared.outcome.Outcome.TheVariants.{Goes, Stops}
use Rattle.core_view.specs.Stages.{execution_of, step_in}
use Rattle.core_view.specs.Flight.{GoesOnAt, result_in}
use Rattle.flight.proofs.flight.plain_result.Goals as goal

abbrev next_in : Option Step → ℕ
next_in (Some step) = step.next
next_in None = 0

abbrev result_of_step : Option Step → Option ℕ
result_of_step (Some step) = Some step.result
result_of_step None = None

goes-on : (o : Outcome) (step : Step) (pc : ℕ) → step_in o ≡ Some step → pc ≡ step.next → GoesOnAt pc o
goes-on (Goes s) step pc is at = at ∙ sym (ap next_in is)
goes-on (Stops why) step pc is at = absurd cc

gives : (o : Outcome) → result_in o ≡ result_of_step (step_in o)
gives (Goes s) = refl
gives (Stops why) = refl

pub returns-clause-followed : goal.returns-clause-followed
returns-clause-followed c step is = subst (λ o. GoesOnAt c.args.entry.now.followed o) is (goes-on (execution_of c.args.entry.now.stage).outcome c.in_ok-step.step c.args.entry.now.followed (sym c.step.ensures ∙ c.in_ok-step.was) (c.if-not-goes_where_followed.ensures refl))

pub returns-clause-goes_on : goal.returns-clause-goes_on
returns-clause-goes_on c = goes-on (execution_of c.args.entry.now.stage).outcome c.in_ok-step.step c.args.entry.now.followed (sym c.step.ensures ∙ c.in_ok-step.was) (c.if-not-goes_where_followed.ensures refl)

pub returns-clause-result : goal.returns-clause-result
returns-clause-result c = gives (execution_of c.args.entry.now.stage).outcome ∙ ap result_of_step (sym c.step.ensures ∙ c.in_ok-step.was)
