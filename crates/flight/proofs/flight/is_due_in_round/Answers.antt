use Rattle.std.proofs.Common.{◌≡◌, ◌≢◌, ℕ, ◌%◌, false, ap, ◌∙◌}
use Rattle.std.specs.Prelude.{◌==◌}
use Rattle.std.proofs.lemmas.Bool.{eqb-false}
use Rattle.core_view.specs.declared.entry.Execution.{Execution}
use Rattle.core_view.specs.declared.entry.Stage.{Stage}
use Rattle.core_view.specs.declared.entry.Stage.TheVariants.{Issued}
use Rattle.core_view.specs.Stages.{execution_of}
use Rattle.flight.proofs.flight.is_due_in_round.Goals as goal

other : (s : Stage) (due cycle : ℕ) → due ≡ (execution_of s).due → (due % 64 == cycle % 64) ≡ false → (x : Execution) → s ≡ Issued x → x.due % 64 ≢ cycle % 64
other s due cycle is differ x issued same = eqb-false (due % 64) (cycle % 64) differ (ap (λ n. n % 64) (is ∙ ap (λ s. (execution_of s).due) issued) ∙ same)

pub returns : goal.returns
returns c = other c.args.entry.now.stage _ _ c.due.ensures
