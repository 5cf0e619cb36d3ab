-- What an event at one context leaves of the others.
use Rattle.std.proofs.Common.{◌≡◌, ◌≢◌, ℕ, ◌<◌, ◌≤◌, Bool, true, false, List, length, take, Option, Some, None, refl, ap, ◌∙◌}
use Rattle.std.specs.Prelude.{if◌then◌else◌}
use Rattle.std.proofs.lemmas.List.{length-set, get_or-set_same, get_or-set_other}
use Rattle.hart_step.specs.State.{State}
use Rattle.core_view.specs.declared.entry.Execution.{Execution}
use Rattle.core_view.specs.Flight.{result_in}
use Rattle.core_view.proofs.Live.{later_live}
use Rattle.core_view.specs.declared.note.EntryId.{EntryId}
use Rattle.data_flow.specs.Flow.{Lane, Flow, no_lane, lane, with_lane, with_result, without_oldest, cut_from, cut_flow}
use Rattle.core_view.specs.Operations.{is_guessed}
use Rattle.core_view.specs.View.{entry_at}
use Rattle.core_context.specs.Track.{Track, cut_stamp, completed}
use Rattle.core_context.specs.Queued.{queued_at, waiting_of, up_to_guess}
use Rattle.core_context.specs.Steps.{cut_if, retired_flow, finished_flow, cut_by, settled_flow, completed_flow}
use Rattle.core_context.specs.Cores.{is_selected, waiters_of, IsCore}
use Rattle.core_context.proofs.Queue.{waiting-cut_other}
use Rattle.core_context.proofs.Settles.{waiting-settled_other}
use Rattle.core_context.specs.Left.{IsLeft}

-- ---- a context of the data flow that is another one

pub lane-with_same : (f : Flow) (c : ℕ) (l : Lane) → c < length f.lanes → lane (with_lane f c l) c ≡ l
lane-with_same f c l lt = get_or-set_same f.lanes c l no_lane lt

pub lane-with_other : (f : Flow) (c d : ℕ) (l : Lane) → d ≢ c → lane (with_lane f c l) d ≡ lane f d
lane-with_other f c d l ne = get_or-set_other f.lanes c d l no_lane ne

pub count-with_lane : (f : Flow) (c : ℕ) (l : Lane) → length (with_lane f c l).lanes ≡ length f.lanes
count-with_lane f c l = length-set f.lanes c l

pub lane-cut_same : (f : Flow) (c k : ℕ) → c < length f.lanes → lane (cut_flow f c k) c ≡ cut_from (lane f c) k
lane-cut_same f c k lt = get_or-set_same f.lanes c (cut_from (lane f c) k) no_lane lt

pub lane-cut_other : (f : Flow) (c d k : ℕ) → d ≢ c → lane (cut_flow f c k) d ≡ lane f d
lane-cut_other f c d k ne = get_or-set_other f.lanes c d (cut_from (lane f c) k) no_lane ne

pub count-cut_flow : (f : Flow) (c k : ℕ) → length (cut_flow f c k).lanes ≡ length f.lanes
count-cut_flow f c k = length-set f.lanes c (cut_from (lane f c) k)

-- ---- a context that is left as it was

left_twice : (f g h : Flow) (d : ℕ) → IsLeft f g d → IsLeft g h d → IsLeft f h d
left_twice f g h d a b = record { lane = b.lane ∙ a.lane; waits = b.waits ∙ a.waits }

pub with_lane_left : (f : Flow) (c d : ℕ) (l : Lane) → d ≢ c → IsLeft f (with_lane f c l) d
with_lane_left f c d l ne = record { lane = lane-with_other f c d l ne; waits = refl }

pub cut_flow_left : (f : Flow) (c d s : ℕ) → d ≢ c → IsLeft f (cut_flow f c s) d
cut_flow_left f c d s ne = record { lane = lane-cut_other f c d s ne; waits = waiting-cut_other f c d s ne }

-- retirement in a context leaves the others
pub retired_flow_left : (f : Flow) (c d : ℕ) (last : Bool) → d ≢ c → IsLeft f (retired_flow f c last) d
retired_flow_left f c d true ne = left_twice f (with_lane f c (without_oldest (lane f c))) (cut_flow (with_lane f c (without_oldest (lane f c))) c 0) d (with_lane_left f c d (without_oldest (lane f c)) ne) (cut_flow_left (with_lane f c (without_oldest (lane f c))) c d 0 ne)
retired_flow_left f c d false ne = with_lane_left f c d (without_oldest (lane f c)) ne

finished_flow_left : (f : Flow) (c d i : ℕ) (value : Option ℕ) → d ≢ c → IsLeft f (finished_flow f c i value) d
finished_flow_left f c d i None ne = record { lane = refl; waits = refl }
finished_flow_left f c d i (Some value) ne = with_lane_left f c d (with_result (lane f c) i value) ne

cut_if_left : (f : Flow) (c d : ℕ) (stamp : Option ℕ) → d ≢ c → IsLeft f (cut_if f c stamp) d
cut_if_left f c d None ne = record { lane = refl; waits = refl }
cut_if_left f c d (Some k) ne = cut_flow_left f c d k ne

-- completion in a context leaves the others
pub completed_flow_left : (f : Flow) (c d i : ℕ) (x : Execution) (t : Track) → d ≢ c → IsLeft f (completed_flow f c i x t) d
completed_flow_left f c d i x t ne = by_guess (is_guessed (entry_at t.context i).operation)
  where
    value : Option ℕ
    value = result_in x.outcome

    g : Flow
    g = cut_by f c i x t.context

    cut : IsLeft f g d
    cut = left_twice f (finished_flow f c i value) g d (finished_flow_left f c d i value ne) (cut_if_left (finished_flow f c i value) c d (cut_stamp t.context i x) ne)

    by_guess : (b : Bool) → IsLeft f (if b then settled_flow g c (completed t i x) else g) d
    by_guess true = left_twice f g (settled_flow g c (completed t i x)) d cut (record { lane = refl; waits = waiting-settled_other g c d (up_to_guess (take (completed t i x).renamed (completed t i x).context.flight)) ne })
    by_guess false = cut

-- ---- how a context stands

-- a track and the data flow stand for a context still, where its part of the data flow is the same, what waits is still what wasn't selected, and stamps were taken
pub other_core : (start : State) (stamp later reorder : ℕ) (f g : Flow) (names names' : List EntryId) (d : ℕ) (t : Track) → IsCore start stamp reorder f names d t → lane g d ≡ lane f d
    → waiting_of g d ≡ waiters_of names' d t.context.flight → ((k : ℕ) → is_selected names' d k ≡ true → queued_at k t.context.flight ≡ true) → stamp ≤ later → IsCore start later reorder g names' d t
other_core start stamp later reorder f g names names' d t core same waits selected le = record {
  live = later_live start stamp later t.context le core.live;
  registers = ap (λ (l : Lane). l.registers) same ∙ core.registers;
  nodes = ap (λ (l : Lane). l.nodes) same ∙ core.nodes;
  room = ap (λ (l : Lane). l.room) same ∙ core.room;
  within = core.within;
  fits = core.fits;
  front = core.front;
  capacity = core.capacity;
  are_renamed = core.are_renamed;
  are_fetched = core.are_fetched;
  waiting = waits;
  selected = selected;
}

-- the same of a context that an event at another one left
pub left_core : (start : State) (stamp later reorder : ℕ) (f g : Flow) (names : List EntryId) (d : ℕ) (t : Track) → IsCore start stamp reorder f names d t → IsLeft f g d → stamp ≤ later → IsCore start later reorder g names d t
left_core start stamp later reorder f g names d t core left le =
    other_core start stamp later reorder f g names names d t core left.lane (left.waits ∙ core.waiting) core.selected le
