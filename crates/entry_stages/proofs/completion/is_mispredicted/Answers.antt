use Rattle.std.proofs.Common.{◌≡◌, Some, ap, ◌∙◌}
use Rattle.core_view.specs.declared.entry.Entry.{Entry}
use Rattle.core_view.specs.declared.outcome.Outcome.{Outcome}
use Rattle.core_view.specs.declared.outcome.Outcome.TheVariants.{Goes, Stops}
use Rattle.core_view.specs.declared.outcome.Step.{Step}
use Rattle.core_view.specs.Events.{is_mispredicted}
use Rattle.core_view.specs.Stages.{execution_of, step_in}
use Rattle.entry_stages.specs.Mispredicted.{is_mispredicted_by}
use Rattle.entry_stages.proofs.completion.is_mispredicted.Goals as goal

by-step : (e : Entry) (o : Outcome) (step : Step) → Some step ≡ step_in o → is_mispredicted e step ≡ is_mispredicted_by e o
by-step e (Goes s) step is = let same : step ≡ s = cc in ap (is_mispredicted e) same
by-step e (Stops why) step is = absurd cc

pub returns-in-Some : goal.returns-in-Some
returns-in-Some c = c.is_mispredicted.ensures ∙ by-step c.args.entry.now (execution_of c.args.entry.now.stage).outcome c.in-Some.step c.in-Some.ensures
