-- A track and the data flow stand for a context, said of so many renamed entries and a flight.
use Rattle.std.proofs.Common.{◌≡◌, ℕ, ◌+◌, ◌≤◌, true, List, length, take, drop, map, sym, subst}
use Rattle.hart_step.specs.State.{State}
use Rattle.core_view.specs.declared.entry.Entry.{Entry}
use Rattle.core_view.specs.Queues.{AllRenamed}
use Rattle.core_view.specs.View.{IsLive}
use Rattle.core_view.specs.declared.note.EntryId.{EntryId}
use Rattle.data_flow.specs.Flow.{Flow, lane}
use Rattle.core_context.specs.Track.{Track}
use Rattle.core_context.specs.Queued.{queued_at, waiting_of}
use Rattle.core_context.specs.Cores.{node_of_entry, AllFetched, is_selected, waiters_of, front_room, IsCore}

-- what is known of a context's flight and its part of the data flow, said of so many renamed entries and a flight
pub record IsFlightCore (reorder : ℕ) (f : Flow) (names : List EntryId) (c renamed : ℕ) (es : List Entry) : Type 0 where
  pub nodes : (lane f c).nodes ≡ map node_of_entry (take renamed es)
  pub room : (lane f c).room ≡ reorder
  pub within : renamed ≤ length es
  pub fits : renamed ≤ reorder
  pub front : length es ≤ renamed + front_room
  pub are_renamed : AllRenamed (take renamed es)
  pub are_fetched : AllFetched (drop renamed es)
  pub waiting : waiting_of f c ≡ waiters_of names c es
  pub selected : (k : ℕ) → is_selected names c k ≡ true → queued_at k es ≡ true

pub core_from : (start : State) (stamp reorder : ℕ) (f : Flow) (names : List EntryId) (c : ℕ) (t : Track) (renamed : ℕ) (es : List Entry) → t.renamed ≡ renamed → t.context.flight ≡ es → IsLive start stamp t.context
    → (lane f c).registers ≡ t.context.state.registers → t.capacity ≡ reorder + front_room → IsFlightCore reorder f names c renamed es → IsCore start stamp reorder f names c t
core_from start stamp reorder f names c t renamed es is_renamed flight live registers capacity h =
    let p : IsFlightCore reorder f names c t.renamed t.context.flight = subst (λ n. IsFlightCore reorder f names c n t.context.flight) (sym is_renamed) (subst (λ fs. IsFlightCore reorder f names c renamed fs) (sym flight) h) in
    record {
      live = live;
      registers = registers;
      nodes = p.nodes;
      room = p.room;
      within = p.within;
      fits = p.fits;
      front = p.front;
      capacity = capacity;
      are_renamed = p.are_renamed;
      are_fetched = p.are_fetched;
      waiting = p.waiting;
      selected = p.selected;
    }
