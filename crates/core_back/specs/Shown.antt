-- What the machine in memory stands for.
use Rattle.std.specs.Prelude.{◌≡◌, ℕ, ◌+◌, ◌*◌, ◌<◌, ◌≤◌, List, [], ◌∷◌, length, map, filter, get_or, All, AllPairs, Bool, true, false, not, ◌&&◌, ◌||◌, ◌==◌, if◌then◌else◌}
use Rattle.std.specs.Arc.{arc_value}
use Rattle.join_law.specs.Eight.{place_of}
use Rattle.origin_set.specs.Start.{start}
use Rattle.core_view.specs.declared.note.EntryId.{EntryId}
use Rattle.core_back.specs.declared.machine.Machine.TheInside.{Inside}
use Rattle.core_view.specs.Flight.{known}
use Rattle.data_flow.specs.Flow.{Flow, Waiter, lane, is_supplied, waits_in}
use Rattle.core_profile.specs.declared.profile.Profile.{Profile}
use Rattle.core_context.specs.Track.{Track}
use Rattle.core_context.specs.Cores.{is_selected, IsCore}
use Rattle.core_context.specs.Issuable.{AreLetGo, IsMarked}
use Rattle.core_back.specs.Fills.{AreFills}
use Rattle.core_back.specs.Machine.{Machine, no_track}

abbrev pub machine_of : {A : Type 0} → Inside A → Machine
machine_of m = record {
  origin = arc_value m.origins.c0;
  view = record { profile = m.profile; cycle = m.cycle; stamp = m.stamp; contexts = map (λ t. t.context) m.tracks.items };
  names = m.selected;
  fetch_room = m.fetch_room;
}

-- two names of different entries
abbrev pub AreApart : EntryId → EntryId → Type 0
AreApart n m = ((m.context == n.context) && (m.stamp == n.stamp)) ≡ false

-- a name is that of an instruction with the values of its sources
abbrev pub IsSuppliedIn : Flow → EntryId → Type 0
IsSuppliedIn f n = is_supplied (known (lane f n.context).registers) (lane f n.context).nodes n.stamp ≡ true

-- what stands under these names is held, or let go
abbrev pub marked_among : List EntryId → Bool → Waiter → Waiter
marked_among names flag w = if is_selected names w.context w.stamp then record w { held = flag } else w

-- it isn't held, or its name is among these: where what is held was selected, it has not issued
abbrev pub still_waits : List EntryId → Waiter → Bool
still_waits names w = not w.held || is_selected names w.context w.stamp

-- what waits, with what was selected and has not issued yet
abbrev pub unissued : List EntryId → Flow → Flow
unissued names f = record f { waiters = filter (still_waits names) f.waiters }

-- while names are left, what is held is they and what has issued
abbrev pub waiting_in : List EntryId → List Waiter → List Waiter
waiting_in [] ws = ws
waiting_in (n ∷ names) ws = filter (still_waits (n ∷ names)) ws

abbrev pub waiting_flow : List EntryId → Flow → Flow
waiting_flow names f = record f { waiters = waiting_in names f.waiters }

-- once no name is left, what is held leaves: it has issued
abbrev pub issued_gone : List EntryId → List Waiter → List Waiter
issued_gone [] ws = filter (λ w. not w.held) ws
issued_gone (n ∷ names) ws = ws

abbrev pub flow_left : List EntryId → Flow → Flow
flow_left names f = record f { waiters = issued_gone names f.waiters }

-- there are as many registers and places as the profile says; `IsCore` says it of the reorder buffers
pub record HasRoom (p : Profile) (f : Flow) (ts : List Track) : Type 0 where
  pub registers : f.extra ≡ p.extra_registers
  pub waiters : f.places ≡ p.issue_queue
  pub loads : (c : ℕ) → c < 8 → (get_or ts c no_track).load_places ≡ p.load_queue
  pub stores : (c : ℕ) → c < 8 → (get_or ts c no_track).store_places ≡ p.store_queue

-- eight contexts, each live and as its parts have it
pub record IsMachine {A : Type 0} (m : Inside A) : Type 0 where
  pub cores : (c : ℕ) → c < 8 → IsCore (start (arc_value m.origins.c0) c) m.stamp m.profile.reorder_buffer (waiting_flow m.selected m.flow) [] c (get_or m.tracks.items c no_track)
  pub origins : (c : ℕ) → c < 8 → arc_value (place_of m.origins c) ≡ arc_value m.origins.c0
  pub tracks : length m.tracks.items ≡ 8
  pub lanes : length m.flow.lanes ≡ 8
  pub contexts : All (λ w. w.context < 8) m.flow.waiters
  pub let_go : m.selected ≡ [] → AreLetGo m.flow
  pub apart : AllPairs AreApart m.selected
  pub supplied : All (IsSuppliedIn m.flow) m.selected
  pub held : All (λ n. IsMarked m.flow n.context n.stamp true) m.selected
  pub waits : All (λ n. waits_in (waiting_flow m.selected m.flow) n.context n.stamp ≡ true) m.selected
  pub stamps : m.stamp + m.fetch_room ≤ 8 * (m.cycle + 1)
  pub room : HasRoom m.profile m.flow m.tracks.items
  pub fills : AreFills m.fills m.tracks.items
