-- What the parts of a core show together.
use Rattle.std.specs.Prelude.{◌≡◌, ℕ, ◌+◌, ◌<◌, List, [], length, sum_by, get_or, slice_get, option_and_then, slice_set, Option}
use Rattle.hart_step.specs.declared.environment.Environment.TheVariants.{One}
use Rattle.hart_step.specs.State.{State}
use Rattle.hart_step.specs.Next.{next}
use Rattle.core_view.specs.declared.outcome.Outcome.{Outcome}
use Rattle.core_view.specs.Outcomes.{moved_by}
use Rattle.paged_memory.specs.Start.{start_cells}
use Rattle.origin_set.specs.OriginValue.{OriginValue}
use Rattle.core_view.specs.declared.note.EntryId.{EntryId}
use Rattle.core_view.specs.declared.entry.Execution.{Execution}
use Rattle.core_view.specs.declared.entry.Entry.{Entry}
use Rattle.core_view.specs.Events.{due_at, with_flight, completed_at}
use Rattle.core_view.specs.View.{Context, View, entry_at, first_context}
use Rattle.core_context.specs.Track.{Track, first_track}

-- the origin of the contexts, the view, what was selected and has not issued yet, and how many more entries may be fetched in this cycle
pub record Machine : Type 0 where
  pub origin : OriginValue
  pub view : View
  pub names : List EntryId
  pub fetch_room : ℕ

abbrev pub no_state : State
no_state = record { registers = []; pc = 0; memory = start_cells [] []; environment = One }

abbrev pub no_context : Context
no_context = first_context 0 0 no_state

abbrev pub no_track : Track
no_track = first_track 0 0 no_state 0 0 0

abbrev pub context_at : Machine → ℕ → Context
context_at m c = get_or m.view.contexts c no_context

-- how many entries of all contexts are in flight
unfoldable pub in_flight : Machine → ℕ
in_flight m = sum_by (λ x. length x.flight) m.view.contexts

-- one context is another from now on
abbrev pub with_context : Machine → ℕ → Context → Machine
with_context m c x = record m { view = record m.view { contexts = slice_set m.view.contexts c x } }

-- all contexts are others from now on
abbrev pub with_contexts : Machine → List Context → Machine
with_contexts m xs = record m { view = record m.view { contexts = xs } }

-- all entries of a context that are due in a cycle complete
abbrev pub completed_context : ℕ → Context → Context
completed_context cycle x = with_flight x (completed_at cycle x.flight)

-- the next cycle begins
abbrev pub with_cycle : Machine → Machine
with_cycle m = record m { view = record m.view { cycle = m.view.cycle + 1 }; fetch_room = 8 }

-- what each part of a cycle but the fetch leaves as it was: the origin, the profile, the cycle's number, what may be fetched, and each context's target
pub record IsAlike (old new : Machine) : Type 0 where
  pub origin : new.origin ≡ old.origin
  pub profile : new.view.profile ≡ old.view.profile
  pub cycle : new.view.cycle ≡ old.view.cycle
  pub room : new.fetch_room ≡ old.fetch_room
  pub targets : (c : ℕ) → c < 8 → (context_at new c).target ≡ (context_at old c).target

-- an outcome of the oldest entry of a context is what plain RV64I does next in the context's state: the step that it makes, or the stop
abbrev pub IsNextOf : Context → Outcome → Type 0
IsNextOf x o = next x.state ≡ moved_by x.state (entry_at x 0).operation o

-- the execution of the entry at a place, where it is due in a cycle
abbrev pub due_in : ℕ → List Entry → ℕ → Option Execution
due_in cycle es i = option_and_then (λ e. due_at cycle e.stage) (slice_get es i)
