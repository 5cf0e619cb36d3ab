-- One context, and what each event makes of it.
use Rattle.std.specs.Prelude.{ℕ, ◌+◌, ◌-◌, Bool, ◌==◌, nat_lt, if◌then◌else◌, [], ◌∷◌, ◌++◌, length, drop, min, slice_set, Option, Some, None}
use Rattle.reorder_buffer.specs.Growing.{below}
use Rattle.hart_step.specs.declared.stop.Stop.{Stop}
use Rattle.hart_step.specs.State.{State}
use Rattle.core_view.specs.declared.outcome.Step.{Step}
use Rattle.core_view.specs.declared.entry.Execution.{Execution}
use Rattle.core_view.specs.declared.entry.Entry.{Entry}
use Rattle.core_view.specs.declared.status.Status.TheVariants.{Parked}
use Rattle.flight.specs.Flights.{Flight}
use Rattle.load_store_queue.specs.Queues.{Places}
use Rattle.core_view.specs.Outcomes.{moved}
use Rattle.core_view.specs.View.{Context, entry_at, first_context}
use Rattle.core_view.specs.Events.{completed_entry, retire_event, stop_event, complete_event, kept_length, issue_event, rename_event, fetch_event, with_flight}

-- a context, how many of its entries are renamed, which are the oldest, how many entries there may be, and how many renamed loads and stores
pub record Track : Type 0 where
  pub context : Context
  pub renamed : ℕ
  pub capacity : ℕ
  pub load_places : ℕ
  pub store_places : ℕ

-- its flight
abbrev pub flight_of : Track → Flight
flight_of t = record { entries = t.context.flight; renamed = t.renamed; capacity = t.capacity }

-- how many loads and stores of it may be renamed
abbrev pub places_of : Track → Places
places_of t = record { load_places = t.load_places; store_places = t.store_places }

abbrev pub first_track : ℕ → ℕ → State → ℕ → ℕ → ℕ → Track
first_track count target s capacity load_places store_places = record { context = first_context count target s; renamed = 0; capacity = capacity; load_places = load_places; store_places = store_places }

-- the context reaches its target as its oldest entry retires
abbrev pub is_last : Context → Bool
is_last c = c.count + 1 == c.target

abbrev pub retired : Track → Step → Track
retired t step = record t { context = retire_event t.context step; renamed = if is_last t.context then 0 else t.renamed - 1 }

-- the oldest entry took its step and left, whether the context is at its target or not
abbrev pub stepped : Track → Step → Track
stepped t step = record t {
  context = record t.context {
    count = t.context.count + 1;
    state = moved t.context.state (entry_at t.context 0).operation step;
    flight = drop 1 t.context.flight;
  };
  renamed = t.renamed - 1;
}

-- the context is parked, and all entries are dropped
abbrev pub parked : Track → Track
parked t = record t { context = record t.context { status = Parked; flight = [] }; renamed = 0 }

-- all entries are dropped
abbrev pub emptied : Track → Track
emptied t = record t { context = with_flight t.context []; renamed = 0 }

abbrev pub stopped : Track → Stop → Track
stopped t why = record t { context = stop_event t.context why; renamed = 0 }

-- how many entries are left once the entry at a place has completed
abbrev pub left_by : Context → ℕ → Execution → ℕ
left_by c i x = i + 1 + kept_length (entry_at c i) x.outcome (drop (i + 1) c.flight)

-- the entry at a place has completed, and nothing is squashed yet
abbrev pub finished : Track → ℕ → Execution → Track
finished t i x = record t { context = with_flight t.context (slice_set t.context.flight i (completed_entry (entry_at t.context i) x)) }

-- without the entries from a stamp on
abbrev pub cut_at : Track → ℕ → Track
cut_at t k = let es = below (λ e. e.stamp) k t.context.flight in record t { context = with_flight t.context es; renamed = min t.renamed (length es) }

abbrev pub completed : Track → ℕ → Execution → Track
completed t i x = record t { context = complete_event t.context i x; renamed = min t.renamed (left_by t.context i x) }

-- the stamp of the oldest entry that is squashed, if one is
abbrev pub cut_stamp : Context → ℕ → Execution → Option ℕ
cut_stamp c i x = if nat_lt (left_by c i x) (length c.flight) then Some (entry_at c (left_by c i x)).stamp else None

abbrev pub issued : Track → ℕ → Execution → Track
issued t i x = record t { context = issue_event t.context i x }

abbrev pub renamed_one : ℕ → Track → Track
renamed_one cycle t = record t { context = rename_event cycle t.context t.renamed; renamed = t.renamed + 1 }

abbrev pub fetched_one : ℕ → ℕ → ℕ → Track → Track
fetched_one stamp cycle followed t = record t { context = fetch_event stamp cycle followed t.context }

-- one more entry, the youngest
abbrev pub pushed : Track → Entry → Track
pushed t e = record t { context = with_flight t.context (t.context.flight ++ e ∷ []) }
