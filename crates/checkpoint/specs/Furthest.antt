-- How far so many instructions of a context lead.
use Rattle.std.specs.Prelude.{◌≡◌, ℕ, Option, Some}
use Rattle.checkpoint.specs.MarkValue.{MarkValue, state_of}
use Rattle.hart_step.specs.Next.{Ran}
use Rattle.hart_step.specs.State.{State}
use Rattle.hart_step.specs.declared.stop.Stop.{Stop}
use Rattle.origin_set.specs.OriginValue.{OriginValue}
use Rattle.origin_set.specs.Start.{start}

-- the mark is where the context stands after at most count instructions: at count, or where plain RV64I stops before
pub record IsFurthest (origin : OriginValue) (context count : ℕ) (mark : MarkValue) : Type 0 where
  pub of_origin : mark.origin ≡ origin
  pub of_context : mark.context ≡ context
  pub state : State
  pub why : Option Stop
  pub is_state : state_of mark ≡ Some state
  pub ran : Ran count (start origin context) mark.count why state
