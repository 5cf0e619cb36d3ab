use Rattle.std.proofs.Common.{◌≡◌, Some, None, refl, sym, ◌∙◌}
use Rattle.std.specs.Prelude.{IsSome}
use Rattle.core_view.specs.declared.outcome.Outcome.{Outcome}
use Rattle.core_view.specs.declared.outcome.Outcome.TheVariants as outcome
use Rattle.core_view.specs.declared.entry.Stage.{Stage}
use Rattle.core_view.specs.declared.entry.Stage.TheVariants.{Fetched, Queued, Issued, Done}
use Rattle.core_view.specs.Stages.{execution_of, stop_in}
use Rattle.entry_stages.specs.Heads.{IsGoing, done_outcome}
use Rattle.entry_stages.proofs.retirement.stop_of.Goals as goal

going : (o : Outcome) → stop_in o ≡ None → IsGoing (Some o)
going (outcome.Goes step) unstopped = refl
going (outcome.Stops why) unstopped = absurd cc

goes-on : (s : Stage) → IsSome (done_outcome s) → stop_in (execution_of s).outcome ≡ None → IsGoing (done_outcome s)
goes-on Fetched some unstopped = absurd cc
goes-on Queued some unstopped = absurd cc
goes-on (Issued x) some unstopped = absurd cc
goes-on (Done x) some unstopped = going x.outcome unstopped

pub returns-clause-goes : goal.returns-clause-goes
returns-clause-goes c none = goes-on c.args.entry.now.stage c.requires (sym c.stop.ensures ∙ none)
