-- What a core shows of itself.
use Rattle.std.specs.Prelude.{◌≡◌, ℕ, ◌<◌, ◌%◌, false, ◌&&◌, ◌==◌, if◌then◌else◌, List, [], take, get_or, slice_index, All, Some, Err}
use Rattle.paged_memory.specs.Cells.{Rights}
use Rattle.hart_step.specs.declared.stop.Stop.TheVariants as stop
use Rattle.hart_step.specs.State.{State}
use Rattle.hart_step.specs.Next.{next, after}
use Rattle.core_profile.specs.declared.profile.Profile.{Profile}
use Rattle.core_view.specs.declared.operation.Operation.TheVariants as operation
use Rattle.core_view.specs.declared.entry.Stage.TheVariants.{Fetched}
use Rattle.core_view.specs.declared.entry.Entry.{Entry}
use Rattle.core_view.specs.declared.status.Status.{Status}
use Rattle.core_view.specs.declared.status.Status.TheVariants.{Running, Parked, Stopped}
use Rattle.core_view.specs.Outcomes.{image_of}
use Rattle.core_view.specs.Flight.{Seen, seen_of, seen_past, IsSound, IsGrowing, IsStampedBelow}

-- a context: how many instructions it retired and is to retire, the state after them, and its entries in flight, oldest first
pub record Context : Type 0 where
  pub status : Status
  pub count : ℕ
  pub target : ℕ
  pub state : State
  pub flight : List Entry

-- the core's parameters, the cycle that comes, the stamp of the next entry, and the contexts
pub record View : Type 0 where
  pub profile : Profile
  pub cycle : ℕ
  pub stamp : ℕ
  pub contexts : List Context

-- what stands where a flight has no entry
abbrev pub no_entry : Entry
no_entry = record { stamp = 0; pc = 0; operation = operation.Stops stop.FetchAccess; fetched = 0; followed = 0; stage = Fetched }

-- the entry at a place of the flight
abbrev pub entry_at : Context → ℕ → Entry
entry_at c i = get_or c.flight i no_entry

-- what the entry at a place sees
abbrev pub seen_at : Context → ℕ → Seen
seen_at c i = seen_past (seen_of c.state) (take i c.flight)

-- ---- sound views

-- the flight is sound over the architectural state, and its stamps grow below the next one
pub record IsSoundFlight (stamp : ℕ) (c : Context) : Type 0 where
  pub sound : IsSound (image_of c.state) (seen_of c.state) c.state.pc c.flight
  pub growing : IsGrowing 0 c.flight
  pub below : IsStampedBelow stamp c.flight

-- every flight of a view is sound
pub record IsSoundView (v : View) : Type 0 where
  pub flights : All (IsSoundFlight v.stamp) v.contexts

-- ---- what is true of a context at any time

-- a context that retired as many instructions as it was to is parked
abbrev pub status_at : ℕ → ℕ → Status
status_at count target = if count == target then Parked else Running

-- a context runs below its target; one that doesn't run has no entries, and is parked at its target, or stopped below it by its next instruction
abbrev pub StatusHolds : Status → Context → Type 0
StatusHolds Running c = c.count < c.target
StatusHolds Parked c = (c.count ≡ c.target) × (c.flight ≡ [])
StatusHolds (Stopped why) c = (c.count < c.target) × (c.flight ≡ []) × (next c.state ≡ Err why)

-- no address may be both written and executed
abbrev pub IsTextApart : (ℕ → Rights) → Type 0
IsTextApart rights = (x : ℕ) → ((rights x).writable && (rights x).executable) ≡ false

-- the state is that of plain RV64I after as many instructions from the start as were retired, and the flight is sound over it
pub record IsLive (start : State) (stamp : ℕ) (c : Context) : Type 0 where
  pub reached : after c.count start ≡ Some c.state
  pub flight : IsSoundFlight stamp c
  pub status : StatusHolds c.status c
  pub aligned : c.state.pc % 4 ≡ 0
  pub zero_register : slice_index c.state.registers 0 ≡ 0
  pub apart : IsTextApart (image_of c.state).rights

-- a context at its first view, parked where it is at its target already
abbrev pub first_context : ℕ → ℕ → State → Context
first_context count target s = record { status = status_at count target; count = count; target = target; state = s; flight = [] }
