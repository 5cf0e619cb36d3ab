-- Whether plain RV64I reaches what a checkpoint says.
use Rattle.std.specs.Prelude.{◌≡◌, ◌⊎◌, ℕ, ◌<◌, ◌≤◌, Some, None}
use Rattle.checkpoint.specs.MarkValue.{MarkValue, state_of}
use Rattle.checkpoint_file.specs.Contexts.{ContextValue}
use Rattle.checkpoint_file.specs.Texts.{context_of}
use Rattle.checkpoint_file.specs.declared.fault.FileFault.{FileFault}
use Rattle.checkpoint_file.specs.declared.fault.FileFault.TheVariants.{NotReached, OutOfMemory}
use Rattle.hart_step.specs.State.{State}
use Rattle.join_law.specs.Eight.{eight_from, place_of}
use Rattle.join_law.specs.declared.places.Eight.{Eight}
use Rattle.origin_set.specs.OriginValue.{OriginValue}

-- the mark of a context
abbrev pub mark_at : OriginValue → ℕ → ℕ → MarkValue
mark_at origin context count = record { origin = origin; context = context; count = count }

-- the marks of eight contexts
abbrev pub marks_of : OriginValue → Eight ContextValue → Eight MarkValue
marks_of origin contexts = eight_from (λ i. mark_at origin i (place_of contexts i).count)

-- plain RV64I reaches, after the context's count, the pc, registers and pages that it has
pub record IsReached (origin : OriginValue) (number : ℕ) (context : ContextValue) : Type 0 where
  pub state : State
  pub reached : state_of (mark_at origin number context.count) ≡ Some state
  pub alike : context ≡ context_of context.count state

-- each context is reached
abbrev pub AreReached : OriginValue → Eight ContextValue → Type 0
AreReached origin contexts = (i : ℕ) → i < 8 → IsReached origin i (place_of contexts i)

-- no count is over a limit
abbrev pub AreWithin : ℕ → Eight MarkValue → Type 0
AreWithin limit marks = (i : ℕ) → i < 8 → (place_of marks i).count ≤ limit

-- a mark isn't made: plain RV64I doesn't reach it, or memory was refused
abbrev pub IsUnreplayedAt : MarkValue → FileFault → Type 0
IsUnreplayedAt mark fault = (fault ≡ OutOfMemory) ⊎ ((fault ≡ NotReached) × (state_of mark ≡ None))

-- one of eight marks isn't made
abbrev pub IsUnreplayed : (ℕ → MarkValue) → FileFault → Type 0
IsUnreplayed marks fault = (fault ≡ OutOfMemory) ⊎ ((fault ≡ NotReached) × (i : ℕ) × (i < 8) × (state_of (marks i) ≡ None))
