-- A machine, the states of a guess and a delay, and a limit decide what a run leaves: its figures, how it ends, and its marks.
use Rattle.std.proofs.Common.{◌≡◌, ℕ, ◌<◌, sym, ap, ◌∙◌}
use Rattle.join_law.specs.declared.places.Eight.{Eight}
use Rattle.join_law.specs.Eight.{place_of}
use Rattle.checkpoint.specs.MarkValue.{MarkValue}
use Rattle.core_view.specs.View.{View}
use Rattle.lawful_cycle.specs.Cycle.{Laws}
use Rattle.lawful_cycle.specs.Runs.{Figures}
use Rattle.lawful_cycle.specs.Stamps.{IsStamped}
use Rattle.lawful_cycle.specs.Views.{context_in}
use Rattle.lawful_cycle.specs.Steps.{Steps}
use Rattle.lawful_cycle.proofs.Laws.{figures_decided}
use Rattle.core_back.specs.Machine.{Machine, context_at}
use Rattle.core_run.specs.declared.run.Outcome.{Outcome}
use Rattle.core_run.specs.Ended.{is_reached, IsSteppedRunOf}

pub run_to_decided : {S T : Type 0} (steps : Steps S T) (laws : Laws) (guess : S) (delay : T) (m : Machine) (limit : ℕ) (o p : Outcome) (f g : Figures) (marks others : Eight MarkValue) → IsStamped m.view
    → IsSteppedRunOf steps laws guess delay m limit o f marks → IsSteppedRunOf steps laws guess delay m limit p g others
    → (f ≡ g) × (is_reached o ≡ is_reached p) × ((c : ℕ) → c < 8 → place_of marks c ≡ place_of others c)
run_to_decided steps laws guess delay m limit o p f g marks others stamped a b =
    let one = figures_decided steps laws limit m.view stamped guess delay a.last.view b.last.view f g a.guess_after b.guess_after a.delay_after b.delay_after (is_reached o) (is_reached p) a.stepped b.stepped in (
      one.1,
      one.2,
      λ c lc.
          (a.marks_at c lc).mark_is
          ∙ ap (λ q. record { origin = q; context = c; count = (context_at a.last c).count }) (a.origin ∙ sym b.origin)
          ∙ ap (λ (v : View). record { origin = b.last.origin; context = c; count = (context_in v c).count }) one.0
          ∙ sym (b.marks_at c lc).mark_is,
    )
