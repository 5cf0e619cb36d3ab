-- What a context's turn to retire makes of it.
use Rattle.std.specs.Prelude.{◌≡◌, ℕ, ◌+◌, ◌≤◌, ◌==◌, Bool, true, false, if◌then◌else◌, List, [], ◌++◌, length, map, take, drop, All, Option, Some, None, IsSome, IsTrue}
use Rattle.hart_step.specs.State.{State}
use Rattle.core_view.specs.declared.entry.Entry.{Entry}
use Rattle.core_view.specs.declared.note.EntryId.{EntryId}
use Rattle.core_view.specs.declared.status.Status.{Status}
use Rattle.core_view.specs.declared.status.Status.TheVariants.{Running, Parked, Stopped}
use Rattle.core_view.specs.declared.outcome.Outcome.{Outcome}
use Rattle.core_view.specs.declared.outcome.Outcome.TheVariants.{Goes, Stops}
use Rattle.core_view.specs.Events.{stop_event}
use Rattle.core_view.specs.View.{Context, IsLive}
use Rattle.lawful_cycle.specs.Retire.{is_done_on, past, KeepsDone}
use Rattle.core_back.specs.Machine.{Machine, IsAlike, in_flight, context_at, with_context}
use Rattle.core_context.specs.Heads.{first_done}

-- the n oldest entries of x have retired: a front, all done without a stop, none past the target
pub record IsFrontGone (n : ℕ) (x y : Context) : Type 0 where
  pub front : n ≤ length x.flight
  pub done : All (λ e. is_done_on e.stage ≡ true) (take n x.flight)
  pub within : x.count + n ≤ x.target
  pub is : y ≡ past x n y.state

-- in a running context
abbrev pub TurnsBy : ℕ → Context → Context → Status → Type 0
TurnsBy n x y Running = IsFrontGone n x y
TurnsBy n x y Parked = (n ≡ 0) × (y ≡ x)
TurnsBy n x y (Stopped why) = (n ≡ 0) × (y ≡ x)

-- a context whose oldest entry is done with a stop is stopped
abbrev pub stopped_by : Option Outcome → Context → Context
stopped_by None x = x
stopped_by (Some (Goes step)) x = x
stopped_by (Some (Stops why)) x = stop_event x why

abbrev pub ended : Context → Context
ended x = stopped_by (first_done x.flight) x

-- an entry of a context, by its name in a note
abbrev pub id_of : ℕ → Entry → EntryId
id_of c e = record { context = c; stamp = e.stamp }

-- a context had its turn: of the width so much is left
pub record IsTurn (m n : Machine) (c width left : ℕ) (old new : List EntryId) : Type 0 where
  pub number : ℕ
  pub after : n ≡ with_context m c (context_at n c)
  pub taken : left + number ≡ width
  pub turned : TurnsBy number (context_at m c) (context_at n c) (context_at m c).status
  pub listed : new ≡ old ++ map (id_of c) (take number (context_at m c).flight)
  -- a done entry is kept only where nothing is left
  pub kept : KeepsDone (context_at n c) → left ≡ 0

-- ---- a context in its turn

-- k entries have retired, and nothing is stopped yet
abbrev pub reached : Context → ℕ → State → Context
reached x k s = record {
  status = if x.count + k == x.target then Parked else x.status;
  count = x.count + k;
  target = x.target;
  state = s;
  flight = if x.count + k == x.target then [] else drop k x.flight;
}

pub record IsOnWay (x y : Context) (k : ℕ) : Type 0 where
  pub at : y ≡ reached x k y.state
  pub front : k ≤ length x.flight
  pub gone : All (λ e. is_done_on e.stage ≡ true) (take k x.flight)
  pub within : x.status ≡ Running → x.count + k ≤ x.target
  pub none : k ≡ 0 → y ≡ x

-- of a context whose turn began with so much room, k entries have retired, and so much is left
pub record IsInTurn (b n : Machine) (c k room left : ℕ) (old new : List EntryId) : Type 0 where
  pub after : n ≡ with_context b c (context_at n c)
  pub taken : left + k ≡ room
  pub way : IsOnWay (context_at b c) (context_at n c) k
  pub listed : new ≡ old ++ map (id_of c) (take k (context_at b c).flight)

-- once one more had its turn, the context goes on, or its turn is over
abbrev pub GoesOn : Bool → Machine → Machine → ℕ → ℕ → ℕ → ℕ → List EntryId → List EntryId → Type 0
GoesOn true b n c k room left old new = IsInTurn b n c k room left old new
GoesOn false b n c k room left old new = IsTurn b n c room left old new

-- a step of it: an entry retires, the context stops, or nothing is left of the width; what it dropped is counted
pub record IsStepOfTurn (m n : Machine) (c left after : ℕ) (goes_on : Bool) (before dropped : ℕ) (old new : List EntryId) : Type 0 where
  pub alike : IsAlike m n
  pub idle : n.names ≡ []
  pub turn : (s : State) (stamp : ℕ) (b : Machine) (k room : ℕ) (names : List EntryId) → IsLive s stamp (context_at b c) →
      IsInTurn b m c k room left names old → GoesOn goes_on b n c (k + 1) room after names new
  pub more : IsTrue goes_on → IsSome (first_done (context_at n c).flight)
  pub counted : dropped + length new + in_flight n ≡ before + length old + in_flight m
  pub bound : dropped ≤ before + 80
