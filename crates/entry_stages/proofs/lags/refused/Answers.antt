use Rattle.std.proofs.Common.{ap, ◌∙◌}
use Rattle.core_view.specs.declared.outcome.Outcome.TheVariants.{Stops}
use Rattle.lawful_cycle.specs.Delays.{one_cycle}
use Rattle.entry_stages.specs.Due.{due_after}
use Rattle.entry_stages.proofs.lags.refused.Goals as goal

pub due_after-requires : goal.due_after-requires
due_after-requires c = c.requires

pub returns : goal.returns
returns c = c.due_after.ensures ∙ ap (λ why. due_after c.args.cycle one_cycle (Stops why)) c.stop_of_fault-why.ensures
