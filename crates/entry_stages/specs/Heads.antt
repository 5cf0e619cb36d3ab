-- What the oldest entry of a flight came to.
use Rattle.std.specs.Prelude.{◌≡◌, List, [], ◌∷◌, Option, Some, None}
use Rattle.core_view.specs.declared.outcome.Step.{Step}
use Rattle.core_view.specs.declared.outcome.Outcome.{Outcome}
use Rattle.core_view.specs.declared.outcome.Outcome.TheVariants.{Goes, Stops}
use Rattle.core_view.specs.declared.entry.Stage.{Stage}
use Rattle.core_view.specs.declared.entry.Stage.TheVariants.{Fetched, Queued, Issued, Done}
use Rattle.core_view.specs.declared.entry.Entry.{Entry}
use Rattle.core_view.specs.Stages.{no_step}

-- the outcome of an entry that is done
abbrev pub done_outcome : Stage → Option Outcome
done_outcome Fetched = None
done_outcome Queued = None
done_outcome (Issued x) = None
done_outcome (Done x) = Some x.outcome

-- the step of an outcome that goes on, of no use for another
abbrev pub step_on : Option Outcome → Step
step_on None = no_step
step_on (Some (Goes step)) = step
step_on (Some (Stops why)) = no_step

abbrev pub IsGoing : Option Outcome → Type 0
IsGoing o = o ≡ Some (Goes (step_on o))

-- the outcome of the oldest entry, where it is done
abbrev pub first_done : List Entry → Option Outcome
first_done [] = None
first_done (e ∷ es) = done_outcome e.stage
