-- The events of a cycle, each as it changes one context.
use Rattle.std.specs.Prelude.{◌≡◌, ℕ, zero, suc, ◌+◌, ◌<◌, ◌≤◌, ◌⊎◌, ◌%◌, Bool, true, not, ◌&&◌, nat_lt, List, [], ◌∷◌, ◌++◌, length, drop, slice_set, Option, Some, None, option_map, ◌==◌, false, if◌then◌else◌}
use Rattle.hart_step.specs.declared.stop.Stop.{Stop}
use Rattle.core_view.specs.declared.operation.Operation.{Operation}
use Rattle.core_view.specs.declared.operation.Operation.TheVariants as operation
use Rattle.core_view.specs.declared.outcome.Step.{Step}
use Rattle.core_view.specs.declared.outcome.Outcome.{Outcome}
use Rattle.core_view.specs.declared.outcome.Outcome.TheVariants.{Goes, Stops}
use Rattle.core_view.specs.declared.entry.Execution.{Execution}
use Rattle.core_view.specs.declared.entry.Stage.{Stage}
use Rattle.core_view.specs.declared.entry.Stage.TheVariants.{Fetched, Queued, Issued, Done}
use Rattle.core_view.specs.declared.entry.Entry.{Entry}
use Rattle.core_view.specs.declared.status.Status.TheVariants.{Stopped}
use Rattle.core_view.specs.Operations.{operation_at, is_guessed, unguessed_next}
use Rattle.core_view.specs.Outcomes.{bytes_written, moved}
use Rattle.core_view.specs.Flight.{pc_past, before_touch, clean_length}
use Rattle.core_view.specs.View.{Context, entry_at, status_at}

-- ---- retire

-- the oldest entry, which is done and goes on, retires; a context that reaches its target is parked, and its flight dropped
abbrev pub retire_event : Context → Step → Context
retire_event c step = record {
  status = status_at (c.count + 1) c.target;
  count = c.count + 1;
  target = c.target;
  state = moved c.state (entry_at c 0).operation step;
  flight = if c.count + 1 == c.target then [] else drop 1 c.flight;
}

-- the oldest entry, which is done and stops, stops the context
abbrev pub stop_event : Context → Stop → Context
stop_event c why = record c { status = Stopped why; flight = [] }

-- ---- complete

-- a context with another flight
abbrev pub with_flight : Context → List Entry → Context
with_flight c es = record c { flight = es }

-- an entry at another stage
abbrev pub with_stage : Entry → Stage → Entry
with_stage e stage = record e { stage = stage }

-- where fetch went on after an entry that completes: at its true next pc
abbrev pub followed_by : ℕ → Outcome → ℕ
followed_by followed (Goes step) = step.next
followed_by followed (Stops why) = followed

-- an entry that completes
abbrev pub completed_entry : Entry → Execution → Entry
completed_entry e x = record e { followed = followed_by e.followed x.outcome; stage = Done x }

-- a guess was wrong
abbrev pub is_mispredicted : Entry → Step → Bool
is_mispredicted e step = is_guessed e.operation && not (e.followed == step.next)

-- what is kept of the younger entries as one completes: nothing after a wrong guess; after a store
-- what stands before the oldest issued load that shares a byte; a stop squashes nothing
abbrev pub kept_after : Entry → Outcome → List Entry → List Entry
kept_after e (Goes step) es = if is_mispredicted e step then [] else before_touch (bytes_written step.access) es
kept_after e (Stops why) es = es

-- how many that are
abbrev pub kept_length : Entry → Outcome → List Entry → ℕ
kept_length e (Goes step) es = if is_mispredicted e step then 0 else clean_length (bytes_written step.access) es
kept_length e (Stops why) es = length es

-- the entry at a place completes, and squashes what it doesn't keep
abbrev pub complete_in : List Entry → ℕ → Execution → List Entry
complete_in [] i x = []
complete_in (e ∷ es) zero x = completed_entry e x ∷ kept_after e x.outcome es
complete_in (e ∷ es) (suc i) x = e ∷ complete_in es i x

-- the same of a context
abbrev pub complete_event : Context → ℕ → Execution → Context
complete_event c i x = with_flight c (complete_in c.flight i x)

-- an entry is due in a cycle
abbrev pub due_at : ℕ → Stage → Option Execution
due_at cycle Fetched = None
due_at cycle Queued = None
due_at cycle (Issued x) = if x.due == cycle then Some x else None
due_at cycle (Done x) = None

-- an entry before others that have completed: where it is due it completes, and squashes what it doesn't keep
abbrev pub completed_by : Option Execution → Entry → List Entry → List Entry
completed_by None e es = e ∷ es
completed_by (Some x) e es = completed_entry e x ∷ kept_after e x.outcome es

-- all entries that are due complete
abbrev pub completed_at : ℕ → List Entry → List Entry
completed_at cycle [] = []
completed_at cycle (e ∷ es) = completed_by (due_at cycle e.stage) e (completed_at cycle es)

-- only those from a place on complete
abbrev pub completed_from : ℕ → ℕ → List Entry → List Entry
completed_from cycle zero es = completed_at cycle es
completed_from cycle (suc i) [] = []
completed_from cycle (suc i) (e ∷ es) = e ∷ completed_from cycle i es

-- ---- where the squash is, said of the flight as it was

-- an entry as it is after the part, if it is kept
abbrev pub completed_if : Option Execution → Entry → Entry
completed_if None e = e
completed_if (Some x) e = completed_entry e x

-- an entry as it is after the part of a cycle in which entries complete
abbrev pub completed_one : ℕ → Entry → Entry
completed_one cycle e = completed_if (due_at cycle e.stage) e

-- the place of the oldest issued load among these that shares a byte with a store
abbrev pub conflict_place : Step → List Entry → Option ℕ
conflict_place step es =
    if nat_lt (clean_length (bytes_written step.access) es) (length es) then Some (clean_length (bytes_written step.access) es) else None

-- the place that an outcome names, counted from the entry after its own: right after a wrong guess, or at the conflict
abbrev pub place_named : Outcome → Entry → List Entry → Option ℕ
place_named (Goes step) e es = if is_mispredicted e step then Some 0 else conflict_place step es
place_named (Stops why) e es = None

-- the place that an entry names as it completes
abbrev pub named_by : Option Execution → Entry → List Entry → Option ℕ
named_by None e es = None
named_by (Some x) e es = place_named x.outcome e es

-- the place that the entry at i names, where it completes in a cycle and names one
abbrev pub named_at : ℕ → List Entry → ℕ → Option ℕ
named_at cycle [] i = None
named_at cycle (e ∷ es) zero = option_map (λ p. p + 1) (named_by (due_at cycle e.stage) e es)
named_at cycle (e ∷ es) (suc i) = option_map (λ p. p + 1) (named_at cycle es i)

-- a flight is squashed from k on: the first place that a kept entry names, or nowhere
pub record IsCutAt (cycle : ℕ) (es : List Entry) (k : ℕ) : Type 0 where
  pub fits : k ≤ length es
  pub first : (i p : ℕ) → i < k → named_at cycle es i ≡ Some p → k ≤ p
  pub named : (k ≡ length es) ⊎ ((i : ℕ) × (i < k) × (named_at cycle es i ≡ Some k))

-- ---- issue, rename, fetch

-- the entry at a place issues
abbrev pub issue_event : Context → ℕ → Execution → Context
issue_event c i x = with_flight c (slice_set c.flight i (with_stage (entry_at c i) (Issued x)))

-- what stops at fetch is done as it is renamed
abbrev pub renamed_stage : ℕ → Operation → Stage
renamed_stage cycle (operation.Performs insn) = Queued
renamed_stage cycle (operation.Stops why) = Done (record { due = cycle; miss = false; outcome = Stops why })

-- the entry at a place is renamed
abbrev pub rename_event : ℕ → Context → ℕ → Context
rename_event cycle c i = with_flight c (slice_set c.flight i (with_stage (entry_at c i) (renamed_stage cycle (entry_at c i).operation)))

-- fetch may go on at a pc: at the next one where it isn't guessed, else at any multiple of 4
pub record MayFollow (o : Operation) (pc followed : ℕ) : Type 0 where
  pub unguessed : is_guessed o ≡ false → followed ≡ unguessed_next o pc
  pub guessed : is_guessed o ≡ true → followed % 4 ≡ 0

-- an entry as it is fetched
abbrev pub fetched_entry : ℕ → ℕ → ℕ → Operation → ℕ → Entry
fetched_entry stamp cycle pc o followed = record { stamp = stamp; pc = pc; operation = o; fetched = cycle; followed = followed; stage = Fetched }

-- what stands where the flight ends is fetched
abbrev pub fetch_event : ℕ → ℕ → ℕ → Context → Context
fetch_event stamp cycle followed c =
    let pc = pc_past c.state.pc c.flight in
    with_flight c (c.flight ++ fetched_entry stamp cycle pc (operation_at c.state.memory pc) followed ∷ [])
