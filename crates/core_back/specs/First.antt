-- The machine as it starts from eight marks.
use Rattle.std.specs.Prelude.{◌≡◌, ℕ, ◌+◌, ◌<◌, ◌≤◌, ◌%◌, ◌^◌, List, [], length, slice_index, get_or, Some}
use Rattle.hart_step.specs.State.{State}
use Rattle.hart_step.specs.Next.{after}
use Rattle.join_law.specs.Eight.{place_of}
use Rattle.join_law.specs.declared.places.Eight.{Eight}
use Rattle.origin_set.specs.OriginValue.{OriginValue}
use Rattle.checkpoint.specs.MarkValue.{MarkValue, state_of}
use Rattle.core_view.specs.View.{Context, first_context}
use Rattle.data_flow.specs.Flow.{Lane, Flow, lane, with_lane, first_lane}
use Rattle.core_profile.specs.declared.profile.Profile.{Profile}
use Rattle.core_context.specs.Track.{Track, first_track}
use Rattle.core_context.specs.Cores.{front_room}
use Rattle.core_back.specs.Machine.{Machine, context_at, no_track}

-- a context in the state of its mark, after the mark's count, with nothing in flight
pub record IsFirstContext (mark : MarkValue) (target : ℕ) (x : Context) : Type 0 where
  pub reached : state_of mark ≡ Some x.state
  pub first : x ≡ first_context mark.count target x.state

-- nothing was done yet, and each context is where its mark is
pub record IsFirst (profile : Profile) (marks : Eight MarkValue) (targets : List ℕ) (m : Machine) : Type 0 where
  pub origin : m.origin ≡ marks.c0.origin
  pub profile_is : m.view.profile ≡ profile
  pub cycle : m.view.cycle ≡ 0
  pub stamp : m.view.stamp ≡ 0
  pub names : m.names ≡ []
  pub fetch_room : m.fetch_room ≡ 8
  pub count : length m.view.contexts ≡ 8
  pub contexts : (c : ℕ) → c < 8 → IsFirstContext (place_of marks c) (slice_index targets c) (context_at m c)

-- no target is below its mark's count, or too great
pub record IsTarget (mark : MarkValue) (target : ℕ) : Type 0 where
  pub above : mark.count ≤ target
  pub below : target ≤ 2 ^ 60

-- ---- the tracks

-- a track in the state of a mark, with nothing in flight, and as much room as the profile says
pub record IsFirstTrack (profile : Profile) (mark : MarkValue) (target : ℕ) (t : Track) : Type 0 where
  pub reached : state_of mark ≡ Some t.context.state
  pub first : t ≡ first_track mark.count target t.context.state (profile.reorder_buffer + front_room) profile.load_queue profile.store_queue
  pub aligned : t.context.state.pc % 4 ≡ 0
  pub zero_register : slice_index t.context.state.registers 0 ≡ 0

-- the tracks of the first marks
pub record AreFirstTracks (profile : Profile) (marks : Eight MarkValue) (targets : List ℕ) (n : ℕ) (ts : List Track) : Type 0 where
  pub count : length ts ≡ n
  pub each : (c : ℕ) → c < n → IsFirstTrack profile (place_of marks c) (slice_index targets c) (get_or ts c no_track)

-- ---- the data flow

-- the first registers of a context are set, and nothing else is changed
pub record AreSet (old : Flow) (c : ℕ) (registers : List ℕ) (n : ℕ) (new : Flow) : Type 0 where
  pub flow : new ≡ with_lane old c (record (lane old c) { registers = (lane new c).registers })
  pub count : length (lane new c).registers ≡ 32
  pub each : (r : ℕ) → r < n → slice_index (lane new c).registers r ≡ slice_index registers r

-- nothing in flight, and the registers of a mark
abbrev pub IsLaneOf : MarkValue → ℕ → Lane → Type 0
IsLaneOf mark room l = (s : State) → state_of mark ≡ Some s → l ≡ record { registers = s.registers; nodes = []; room = room }

-- the first contexts have the registers of their marks, the others none yet
pub record AreFirstLanes (profile : Profile) (marks : Eight MarkValue) (n : ℕ) (f : Flow) : Type 0 where
  pub count : length f.lanes ≡ 8
  pub waiters : f.waiters ≡ []
  pub extra : f.extra ≡ profile.extra_registers
  pub places : f.places ≡ profile.issue_queue
  pub set : (c : ℕ) → c < n → IsLaneOf (place_of marks c) profile.reorder_buffer (lane f c)
  pub others : (c : ℕ) → n ≤ c → c < 8 → lane f c ≡ first_lane profile.reorder_buffer

-- ---- the end

-- a state that plain RV64I reaches, from which a mark can be made
pub record IsReached (start : State) (t : Track) : Type 0 where
  pub reached : after t.context.count start ≡ Some t.context.state
  pub within : t.context.count ≤ t.context.target
  pub aligned : t.context.state.pc % 4 ≡ 0
  pub zero_register : slice_index t.context.state.registers 0 ≡ 0

-- a mark is where a context is: it has its count, and so its state
pub record IsMarkAt (origin : OriginValue) (c : ℕ) (x : Context) (mark : MarkValue) : Type 0 where
  pub mark_is : mark ≡ record { origin = origin; context = c; count = x.count }
  pub reached : state_of mark ≡ Some x.state

-- so for each context
abbrev pub AreMarksAt : Machine → Eight MarkValue → Type 0
AreMarksAt m marks = (c : ℕ) → c < 8 → IsMarkAt m.origin c (context_at m c) (place_of marks c)
