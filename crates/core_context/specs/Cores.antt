-- How the parts of a core stand for its contexts.
use Rattle.std.specs.Prelude.{◌≡◌, ℕ, ◌+◌, ◌≤◌, Bool, true, not, ◌&&◌, ◌==◌, if◌then◌else◌, List, [], ◌∷◌, length, map, filter, take, drop, None}
use Rattle.std.specs.List.{list_any}
use Rattle.hart_step.specs.State.{State}
use Rattle.core_view.specs.declared.entry.Entry.{Entry}
use Rattle.core_view.specs.declared.entry.Stage.TheVariants.{Fetched}
use Rattle.core_view.specs.Operations.{destination_of}
use Rattle.core_view.specs.Flight.{result_of, is_queued}
use Rattle.core_view.specs.Queues.{AllRenamed}
use Rattle.core_view.specs.View.{IsLive}
use Rattle.core_view.specs.declared.note.EntryId.{EntryId}
use Rattle.data_flow.specs.Flow.{Node, Waiter, Flow, lane}
use Rattle.core_context.specs.Track.{Track}
use Rattle.core_context.specs.Queued.{queued_at, waiting_of, waiter_for}
pub use Rattle.entry_stages.specs.Operands.{operands_of}

-- ---- entries in the data flow

-- an entry as an instruction of the data flow
abbrev pub node_of_entry : Entry → Node
node_of_entry e = record { operands = operands_of e; result = if destination_of e.operation == 0 then None else result_of e.stage }

-- ---- flights

-- all of these are fetched and not yet renamed
abbrev pub AllFetched : List Entry → Type 0
AllFetched [] = Unit {0}
AllFetched (e ∷ es) = (e.stage ≡ Fetched) × AllFetched es

-- the entry of a context and stamp was selected, and has not issued yet
abbrev pub is_selected : List EntryId → ℕ → ℕ → Bool
is_selected names c k = list_any (λ n. (n.context == c) && (n.stamp == k)) names

-- an entry of a context is queued, and wasn't selected
abbrev pub is_waiting : List EntryId → ℕ → Entry → Bool
is_waiting names c e = is_queued e.stage && not (is_selected names c e.stamp)

-- those of a flight, oldest first, as they wait
abbrev pub waiters_of : List EntryId → ℕ → List Entry → List Waiter
waiters_of names c es = map (waiter_for c es) (filter (is_waiting names c) es)

-- ---- one context

-- so many entries are fetched ahead of renaming at most
abbrev pub front_room : ℕ
front_room = 16

-- a track and the data flow stand for a context that is live: the oldest entries are renamed, and the data flow has them; what waits there is what is queued and wasn't selected, in order
pub record IsCore (start : State) (stamp reorder : ℕ) (f : Flow) (names : List EntryId) (c : ℕ) (t : Track) : Type 0 where
  pub live : IsLive start stamp t.context
  pub registers : (lane f c).registers ≡ t.context.state.registers
  pub nodes : (lane f c).nodes ≡ map node_of_entry (take t.renamed t.context.flight)
  pub room : (lane f c).room ≡ reorder
  pub within : t.renamed ≤ length t.context.flight
  pub fits : t.renamed ≤ reorder
  pub front : length t.context.flight ≤ t.renamed + front_room
  pub capacity : t.capacity ≡ reorder + front_room
  pub are_renamed : AllRenamed (take t.renamed t.context.flight)
  pub are_fetched : AllFetched (drop t.renamed t.context.flight)
  pub waiting : waiting_of f c ≡ waiters_of names c t.context.flight
  pub selected : (k : ℕ) → is_selected names c k ≡ true → queued_at k t.context.flight ≡ true
