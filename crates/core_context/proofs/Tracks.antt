-- What the loops over a flight find, what its ring leaves, and what an entry squashes as it completes.
use Rattle.std.proofs.Common.{◌≡◌, ◌≢◌, ℕ, suc, ◌+◌, ◌-◌, ◌<◌, ◌≤◌, Bool, true, false, cond, List, [], ◌∷◌, length, get_or, take, drop, slice_get, Option, Some, None, refl, sym, ap, subst, ◌∙◌, arith, add-one, length-take, length-drop, inl, inr}
use Rattle.std.specs.Prelude.{set, is_some, nat_lt, not, min, find, option_map, if◌then◌else◌, ◌==◌, ◌&&◌}
use Rattle.std.proofs.lemmas.Bool.{cases_eq, cases_lt, eq-eqb, lt-ltb, le-ltb, ltb-true, ltb-false}
use Rattle.std.proofs.lemmas.List.{nil_from_length, take_all, length-set, get_or-drop, get_or-set_other, get_or_default}
use Rattle.std.proofs.lemmas.List.Folds.{list_any_none, list_any_at}
use Rattle.std.proofs.lemmas.Option.{get_or_from_slice_get, slice_get-get_or, slice_get_cases, slice_get_within, none-some}
use Rattle.circular_buffer.specs.Buffer.{last_item}
use Rattle.reorder_buffer.specs.Growing.{IsGrowing as IsRising, below}
use Rattle.reorder_buffer.proofs.Stamps.{take-below}
use Rattle.paged_memory.specs.Cells.{Cells}
use Rattle.hart_step.specs.declared.stop.Stop.{Stop}
use Rattle.hart_step.specs.State.{State, written}
use Rattle.hart_step.specs.declared.environment.Environment.{Environment}
use Rattle.core_view.specs.declared.span.Bytes.{Bytes}
use Rattle.core_view.specs.declared.outcome.Step.{Step}
use Rattle.core_view.specs.declared.outcome.Outcome.{Outcome}
use Rattle.core_view.specs.declared.outcome.Outcome.TheVariants.{Goes, Stops}
use Rattle.core_view.specs.declared.entry.Execution.{Execution}
use Rattle.core_view.specs.declared.entry.Stage.{Stage}
use Rattle.core_view.specs.declared.entry.Stage.TheVariants.{Fetched, Queued, Issued, Done}
use Rattle.core_view.specs.declared.entry.Entry.{Entry}
use Rattle.core_view.specs.Operations.{stops_at_fetch, is_guessed, is_store, destination_of}
use Rattle.core_view.specs.Outcomes.{Image, bytes_written, memory_after}
use Rattle.core_view.specs.Flight.{is_queued, is_done, Seen, seen_past, pc_past, is_open, span_read, bytes_in, touches, clean_length, HasOutcome, IsSoundEntry, IsSound}
use Rattle.core_view.specs.Stages.{execution_of}
use Rattle.core_view.specs.Events.{is_mispredicted, kept_length, completed_entry, complete_in}
use Rattle.core_view.specs.Queues.{loads_of, conflict_in, conflict_of}
use Rattle.core_view.specs.View.{no_entry, entry_at, status_at}
use Rattle.core_view.specs.declared.status.Status.{Status}
use Rattle.load_store_queue.specs.Queues.{Places}
use Rattle.core_context.specs.Cores.{front_room}
use Rattle.core_view.proofs.Accesses.{stage_bytes}
use Rattle.core_view.proofs.Accesses.{store_predicted}
use Rattle.core_view.proofs.Queues.{queue_conflict}
use Rattle.core_view.proofs.RingForm.{complete_take}
use Rattle.core_view.proofs.Sound.{sound_at}
use Rattle.flight.specs.Flights.{Flight, empty_flight, NoneFrom, IsNext, retired_one, issued_one, finished_one}
use Rattle.flight.specs.Marked.{is_waiting}
use Rattle.entry_stages.specs.Heads.{done_outcome, first_done, step_on}
use Rattle.core_context.specs.Queued.{queued_at}
use Rattle.entry_stages.specs.Mispredicted.{is_mispredicted_by}
use Rattle.core_context.specs.Track.{Track, first_track, flight_of, issued, stepped, left_by, cut_stamp, finished, cut_at, completed}
use Rattle.core_view.proofs.Growing.{growing_whole}
use Rattle.core_context.proofs.Waiting.{and_none}

-- ---- an entry at a place

pub within : {X : Type 0} (xs : List X) (i : ℕ) (x : X) → slice_get xs i ≡ Some x → i < length xs
within xs i x is =
    elim (slice_get_cases xs i).1 [
      | inl some ↦ some.1
      | inr none ↦ absurd (none-some x (sym none.1 ∙ is))
    ]

pub past : {X : Type 0} (xs : List X) (i : ℕ) → slice_get xs i ≡ None → length xs ≤ i
past xs i is =
    elim (slice_get_cases xs i).1 [
      | inl some ↦ absurd (none-some some.0 (sym is ∙ some.2))
      | inr none ↦ none.0
    ]

-- what is read as none isn't there
pub not_there : (es : List Entry) (i : ℕ) → slice_get es i ≡ None → i < length es → ⊥
not_there es i none lt = let le : length es ≤ i = past es i none in omega (arith, le, lt)

-- a change of what stands at a place is a change of what was read there
pub set_read : (es fs : List Entry) (i : ℕ) (e : Entry) (change : Entry → Entry) → slice_get es i ≡ Some e → fs ≡ set es i (change (get_or es i no_entry)) → fs ≡ set es i (change e)
set_read es fs i e change read is = is ∙ ap (λ (n : Entry). set es i (change n)) (get_or_from_slice_get es i e no_entry read)

-- the oldest entry as it is read
pub first_read : (es : List Entry) (e : Entry) → slice_get es 0 ≡ Some e → first_done es ≡ done_outcome e.stage
first_read [] e h = absurd cc
first_read (x ∷ es) e h = let same : x ≡ e = cc in ap (λ (f : Entry). done_outcome f.stage) same

-- what it leaves once it took its step
pub step_taken : (t now : Track) (e : Entry) (step : Step) (f : Flight) (memory : Cells) (registers : List ℕ) → t ≡ now → slice_get t.context.flight 0 ≡ Some e → step ≡ step_on (done_outcome e.stage)
    → registers ≡ written t.context.state.registers (destination_of e.operation) step.result → memory ≡ memory_after t.context.state.environment t.context.state.memory (step_on (done_outcome e.stage)).access → f ≡ retired_one (flight_of t)
    → record t {
      context = record t.context { count = t.context.count + 1; state = record t.context.state { registers = registers; pc = step.next; memory = memory }; flight = f.entries };
      renamed = f.renamed;
      capacity = f.capacity;
    } ≡ stepped now (step_on (first_done now.context.flight))
step_taken t now e step f memory registers is read taken written_ stored left =
    let here : entry_at t.context 0 ≡ e = get_or_from_slice_get t.context.flight 0 e no_entry read in
    rw (written_, stored, left, taken, ← is, here, first_read t.context.flight e read) refl

-- a context in the state of a hart, by its parts
pub first_is : (count target : ℕ) (s : State) (status : Status) (registers : List ℕ) (pc : ℕ) (memory : Cells) (environment : Environment) (f : Flight) (q : Places) (renamed front loads stores most_renamed most_loads most_stores : ℕ) → status ≡ status_at count target
    → registers ≡ s.registers → pc ≡ s.pc → memory ≡ s.memory → environment ≡ s.environment → f ≡ empty_flight (renamed + front) → renamed ≡ most_renamed → front ≡ front_room → q ≡ record { load_places = loads; store_places = stores } → loads ≡ most_loads → stores ≡ most_stores
    → record {
      context = record { status = status; count = count; target = target; state = record { registers = registers; pc = pc; memory = memory; environment = environment }; flight = f.entries };
      renamed = f.renamed;
      capacity = f.capacity;
      load_places = q.load_places;
      store_places = q.store_places;
    } ≡ first_track count target s (most_renamed + front_room) most_loads most_stores
first_is count target s status registers pc memory environment f q renamed front loads stores most_renamed most_loads most_stores status_is registers_are pc_is memory_is environment_is empty renamed_is front_is places loads_are stores_are =
    rw (status_is, registers_are, pc_is, memory_is, environment_is, empty, renamed_is, front_is, places, loads_are, stores_are) refl

-- an entry has completed, where its flight says so
pub finished_is : (t now : Track) (f : Flight) (i : ℕ) → t ≡ now → f ≡ finished_one (flight_of t) i (execution_of (entry_at t.context i).stage)
    → record t { context = record t.context { flight = f.entries }; renamed = f.renamed; capacity = f.capacity } ≡ finished now i (execution_of (entry_at now.context i).stage)
finished_is t now f i is done = rw (done, ← is) refl

-- an entry issued, where its flight says so
pub issued_is : (t now : Track) (f : Flight) (i : ℕ) (x : Execution) → t ≡ now → f ≡ issued_one (flight_of t) i x
    → record t { context = record t.context { flight = f.entries }; renamed = f.renamed; capacity = f.capacity } ≡ issued now i x
issued_is t now f i x is left = rw (left, ← is) refl

-- the oldest entry is done where it came to something
pub first_is_done : (es : List Entry) → is_done (get_or es 0 no_entry).stage ≡ is_some (first_done es)
first_is_done [] = refl
first_is_done (e ∷ es) = by_stage e.stage
  where
    by_stage : (s : Stage) → is_done s ≡ is_some (done_outcome s)
    by_stage Fetched = refl
    by_stage Queued = refl
    by_stage (Issued x) = refl
    by_stage (Done x) = refl

-- and the one after it
pub next_is_done : (es : List Entry) → is_done (get_or es 1 no_entry).stage ≡ is_some (first_done (drop 1 es))
next_is_done [] = refl
next_is_done (e ∷ es) = first_is_done es

-- ---- the end of a flight

-- the pc where a flight goes on is the one that its last entry was followed at
pub pc_last : (pc : ℕ) (es : List Entry) (d : Entry) → 0 < length es → pc_past pc es ≡ (get_or es (length es - 1) d).followed
pc_last pc [] d some = absurd (omega arith)
pc_last pc (e ∷ []) d some = refl
pc_last pc (e ∷ f ∷ es) d some =
    let one : suc (suc (length es)) - 1 ≡ suc (suc (length es) - 1) = omega arith in
    rw one (pc_last e.followed (f ∷ es) d (omega arith))

open_last : (es : List Entry) (d : Entry) → 0 < length es → is_open es ≡ not (stops_at_fetch (get_or es (length es - 1) d).operation)
open_last [] d some = absurd (omega arith)
open_last (e ∷ []) d some = refl
open_last (e ∷ f ∷ es) d some =
    let one : suc (suc (length es)) - 1 ≡ suc (suc (length es) - 1) = omega arith in
    rw one (open_last (f ∷ es) d (omega arith))

-- a flight with a last entry, or none
pub pc_some : (pc : ℕ) (es : List Entry) (e : Entry) → last_item es ≡ Some e → e.followed ≡ pc_past pc es
pc_some pc es e is =
    let lt : length es - 1 < length es = within es (length es - 1) e is in
    sym (pc_last pc es e (omega (arith, lt)) ∙ ap (λ (f : Entry). f.followed) (get_or_from_slice_get es (length es - 1) e e is))

pub open_some : (es : List Entry) (e : Entry) → last_item es ≡ Some e → not (stops_at_fetch e.operation) ≡ is_open es
open_some es e is =
    let lt : length es - 1 < length es = within es (length es - 1) e is in
    sym (open_last es e (omega (arith, lt)) ∙ ap (λ (f : Entry). not (stops_at_fetch f.operation)) (get_or_from_slice_get es (length es - 1) e e is))

pub none_last : (es : List Entry) → last_item es ≡ None → es ≡ []
none_last es is = let le : length es ≤ length es - 1 = past es (length es - 1) is in nil_from_length es (omega (arith, le))

-- ---- the queued entry of a stamp

abbrev pub is_queued_of : ℕ → Entry → Bool
is_queued_of k e = (e.stamp == k) && is_queued e.stage

-- it is the one at a place
pub queued_here : (k : ℕ) (es : List Entry) (i : ℕ) (e : Entry) → slice_get es i ≡ Some e → is_queued (get_or es i no_entry).stage ≡ true → e.stamp ≡ k → queued_at k es ≡ true
queued_here k es i e read queued is =
    list_any_at (is_queued_of k) es i no_entry (within es i e read) (rw (eq-eqb (get_or es i no_entry).stamp k (ap (λ (x : Entry). x.stamp) (get_or_from_slice_get es i e no_entry read) ∙ is), queued) refl)

-- it is none up to the next queued entry, which has another stamp
pub none_up_to : (k : ℕ) (es : List Entry) (from place : ℕ) (e : Entry) → ((i : ℕ) → i < from → is_queued_of k (get_or es i no_entry) ≡ false) → IsNext is_waiting es from place → slice_get es place ≡ Some e → (e.stamp == k) ≡ false
    → (i : ℕ) → i < place + 1 → is_queued_of k (get_or es i no_entry) ≡ false
none_up_to k es from place e before next read other i lt =
    elim (cases_lt i from) [
      | inl below ↦ before i below
      | inr after ↦ elim (cases_lt i place) [
        | inl below ↦ rw (next.first i after below) (and_none ((get_or es i no_entry).stamp == k))
        | inr past ↦ let here : i ≡ place = omega (arith, lt, past) in rw (here, get_or_from_slice_get es place e no_entry read, other) refl
      ]
    ]

-- it is none of all
pub none_queued : (k : ℕ) (es : List Entry) (from : ℕ) → ((i : ℕ) → i < from → is_queued_of k (get_or es i no_entry) ≡ false) → NoneFrom is_waiting es from → queued_at k es ≡ false
none_queued k es from before after = list_any_none (is_queued_of k) es (λ i d lt. ap (is_queued_of k) (get_or_default es i d no_entry lt) ∙ none i)
  where
    none : (i : ℕ) → is_queued_of k (get_or es i no_entry) ≡ false
    none i = elim (cases_lt i from) [ inl below ↦ before i below | inr past ↦ rw (after i past) (and_none ((get_or es i no_entry).stamp == k)) ]

-- ---- squashes

-- no stamp is below 0
pub below_zero : {X : Type 0} (stamp : X → ℕ) (xs : List X) → below stamp 0 xs ≡ []
below_zero stamp [] = refl
below_zero stamp (x ∷ xs) =
    let first : nat_lt (stamp x) 0 ≡ false = le-ltb (stamp x) 0 (omega arith) in
    rw first (below_zero stamp xs)

-- what is below the stamp of the entry at k stands before it
pub below_at : {X : Type 0} (stamp : X → ℕ) (xs : List X) (k : ℕ) (x : X) → IsRising stamp xs → slice_get xs k ≡ Some x → below stamp (stamp x) xs ≡ take k xs
below_at stamp xs k x growing is =
    let lt : k < length xs = within xs k x is in
    sym (take-below stamp (stamp x) k xs (omega (arith, lt)) front rest)
  where
    at : (d : _) → stamp (get_or xs k d) ≡ stamp x
    at d = ap stamp (get_or_from_slice_get xs k x d is)

    front : (i : ℕ) (d : _) → i < k → stamp (get_or xs i d) < stamp x
    front i d lt = omega (arith, at d, growing i k d lt (within xs k x is))

    rest : (i : ℕ) (d : _) → k ≤ i → i < length xs → stamp x ≤ stamp (get_or xs i d)
    rest i d ge lt =
        elim (cases_eq i k) [
          | inl same ↦ omega (arith, at d, ap (λ j. stamp (get_or xs j d)) same)
          | inr differ ↦ omega (arith, at d, growing k i d (omega (arith, differ)) lt)
        ]

-- ---- a completion

-- what was followed where it goes wasn't guessed wrongly
pub followed_right : (e : Entry) (o : Outcome) → ((step : Step) → o ≡ Goes step → e.followed ≡ step.next) → is_mispredicted_by e o ≡ false
followed_right e (Goes step) h = rw (eq-eqb e.followed step.next (h step refl)) (and_none (is_guessed e.operation))
followed_right e (Stops why) h = refl

-- how many entries are left
abbrev left_in : List Entry → ℕ → Execution → ℕ
left_in es i x = i + 1 + kept_length (get_or es i no_entry) x.outcome (drop (i + 1) es)

-- the stamp of the entry at n, if there is one
abbrev stamp_if : ℕ → List Entry → Option ℕ
stamp_if n es = if nat_lt n (length es) then Some (get_or es n no_entry).stamp else None

stamp_none : (n : ℕ) (es : List Entry) → length es ≤ n → None ≡ stamp_if n es
stamp_none n es le = rw (le-ltb n (length es) le) refl

stamp_some : (n : ℕ) (es : List Entry) → n < length es → Some (get_or es n no_entry).stamp ≡ stamp_if n es
stamp_some n es lt = rw (lt-ltb n (length es) lt) refl

stamp_past : (n : ℕ) (es : List Entry) → stamp_if n es ≡ None → length es ≤ n
stamp_past n es h = go (nat_lt n (length es)) refl h
  where
    go : (t : Bool) → nat_lt n (length es) ≡ t → (if t then Some (get_or es n no_entry).stamp else None) ≡ None → length es ≤ n
    go true is none = absurd cc
    go false is none = ltb-false n (length es) is

stamp_at : (n k : ℕ) (es : List Entry) → stamp_if n es ≡ Some k → (n < length es) × ((get_or es n no_entry).stamp ≡ k)
stamp_at n k es h = go (nat_lt n (length es)) refl h
  where
    go : (t : Bool) → nat_lt n (length es) ≡ t → (if t then Some (get_or es n no_entry).stamp else None) ≡ Some k → (n < length es) × ((get_or es n no_entry).stamp ≡ k)
    go true is some = (ltb-true n (length es) is, cc)
    go false is some = absurd cc

stamp-drop : (n i : ℕ) (es : List Entry) → i < length es → stamp_if n (drop (i + 1) es) ≡ stamp_if (i + 1 + n) es
stamp-drop n i es lt = go (nat_lt n (length (drop (i + 1) es))) refl
  where
    go : (t : Bool) → nat_lt n (length (drop (i + 1) es)) ≡ t → (if t then Some (get_or (drop (i + 1) es) n no_entry).stamp else None) ≡ stamp_if (i + 1 + n) es
    go true is = ap (λ (f : Entry). Some f.stamp) (get_or-drop (i + 1) es n no_entry) ∙ stamp_some (i + 1 + n) es (omega (arith, ltb-true n (length (drop (i + 1) es)) is, length-drop (i + 1) es))
    go false is = stamp_none (i + 1 + n) es (omega (arith, ltb-false n (length (drop (i + 1) es)) is, length-drop (i + 1) es))

-- what writes nothing touches nothing
clean_none : (es : List Entry) → clean_length None es ≡ length es
clean_none [] = refl
clean_none (e ∷ es) = rw (clean_none es, add-one) refl

-- the oldest conflict stands behind what a store leaves
conflict_stamp : (b : Option Bytes) (es : List Entry) → conflict_of es b ≡ stamp_if (clean_length b es) es
conflict_stamp b [] = refl
conflict_stamp b (e ∷ es) = go (touches b (span_read e.stage)) (conflict_stamp b es)
  where
    go : (t : Bool) → conflict_of es b ≡ stamp_if (clean_length b es) es
        → option_map (λ f. f.stamp) (cond t (Some e) (find (λ f. touches b (span_read f.stage)) es)) ≡ stamp_if (if t then 0 else clean_length b es + 1) (e ∷ es)
    go true ih = stamp_some 0 (e ∷ es) (omega arith)
    go false ih = ih ∙ sym (next (clean_length b es))
      where
        next : (n : ℕ) → stamp_if (n + 1) (e ∷ es) ≡ stamp_if n es
        next n = by_order (nat_lt n (length es)) refl
          where
            one : n + 1 ≡ suc n
            one = omega arith

            by_order : (t : Bool) → nat_lt n (length es) ≡ t → stamp_if (n + 1) (e ∷ es) ≡ (if t then Some (get_or es n no_entry).stamp else None)
            by_order true is = sym (stamp_some (n + 1) (e ∷ es) (omega (arith, ltb-true n (length es) is))) ∙ ap (λ m. Some (get_or (e ∷ es) m no_entry).stamp) one
            by_order false is = sym (stamp_none (n + 1) (e ∷ es) (omega (arith, ltb-false n (length es) is)))

module _ (es : List Entry) (i : ℕ) (e : Entry) (x : Execution) (is : slice_get es i ≡ Some e) where
  here : get_or es i no_entry ≡ e
  here = get_or_from_slice_get es i e no_entry is

  -- a stop leaves all
  cut_stop : (why : Stop) → x.outcome ≡ Stops why → None ≡ stamp_if (left_in es i x) es
  cut_stop why stops = stamp_none (left_in es i x) es (rw stops (omega (arith, slice_get_within es i e is, length-drop (i + 1) es)))

  -- so does an entry that goes on, was guessed right and writes nothing
  cut_right : (step : Step) → x.outcome ≡ Goes step → is_mispredicted e step ≡ false → bytes_written step.access ≡ None → None ≡ stamp_if (left_in es i x) es
  cut_right step goes right bytes =
      stamp_none (left_in es i x) es (rw (goes, here, right, bytes) (omega (arith, slice_get_within es i e is, clean_none (drop (i + 1) es), length-drop (i + 1) es)))

  -- so what wasn't guessed wrongly and writes nothing leaves all
  pub cut_kept : is_mispredicted_by e x.outcome ≡ false → bytes_in x.outcome ≡ None → None ≡ stamp_if (left_in es i x) es
  cut_kept right bytes = go x.outcome refl right bytes
    where
      go : (o : Outcome) → x.outcome ≡ o → is_mispredicted_by e o ≡ false → bytes_in o ≡ None → None ≡ stamp_if (left_in es i x) es
      go (Goes step) goes right bytes = cut_right step goes right bytes
      go (Stops why) stops right bytes = cut_stop why stops

  -- a wrong guess leaves nothing behind the entry
  left_wrong : is_mispredicted_by e x.outcome ≡ true → left_in es i x ≡ i + 1
  left_wrong wrong = go x.outcome refl wrong
    where
      go : (o : Outcome) → x.outcome ≡ o → is_mispredicted_by e o ≡ true → left_in es i x ≡ i + 1
      go (Goes step) goes wrong = rw (goes, here, wrong) (omega arith)
      go (Stops why) stops wrong = absurd cc

  module _ (new : List Entry) (written : new ≡ set es i (completed_entry e x)) where
    as_long : length new ≡ length es
    as_long = ap (λ (fs : List Entry). length fs) written ∙ length-set es i (completed_entry e x)

    pub cut_wrong_none : is_mispredicted_by e x.outcome ≡ true → slice_get new (i + 1) ≡ None → None ≡ stamp_if (left_in es i x) es
    cut_wrong_none wrong none = stamp_none (left_in es i x) es (omega (arith, left_wrong wrong, past new (i + 1) none, as_long))

    pub cut_wrong_some : (f : Entry) → is_mispredicted_by e x.outcome ≡ true → slice_get new (i + 1) ≡ Some f → Some f.stamp ≡ stamp_if (left_in es i x) es
    cut_wrong_some f wrong at =
        let other : i + 1 ≢ i = λ same. omega (arith, same) in
        let read : get_or es (i + 1) no_entry ≡ f =
        sym (get_or-set_other es i (i + 1) (completed_entry e x) no_entry other) ∙ ap (λ (fs : List Entry). get_or fs (i + 1) no_entry) (sym written) ∙ get_or_from_slice_get new (i + 1) f no_entry at in
        ap (λ (g : Entry). Some g.stamp) (sym read) ∙ stamp_some (i + 1) es (omega (arith, within new (i + 1) f at, as_long)) ∙ ap (λ n. stamp_if n es) (sym (left_wrong wrong))

  module _ (image : Image) (seen : Seen) (pc : ℕ) (stage : e.stage ≡ Issued x) (sound : IsSound image seen pc es) where
    -- what isn't a store writes nothing
    pub writes_none : is_store e.operation ≡ false → bytes_in x.outcome ≡ None
    writes_none other =
        let at : IsSoundEntry image (seen_past seen (take i es)) (pc_past pc (take i es)) e = subst (λ (f : Entry). IsSoundEntry image (seen_past seen (take i es)) (pc_past pc (take i es)) f) here (sound_at image seen pc es i no_entry (slice_get_within es i e is) sound) in
        let out : HasOutcome image (seen_past seen (take i es)) e.operation e.pc (Done x) = issued_done (seen_past seen (take i es)) (subst (λ (s : Stage). HasOutcome image (seen_past seen (take i es)) e.operation e.pc s) stage at.outcome) in
        stage_bytes image (seen_past seen (take i es)) e.operation e.pc (Done x) other out
      where
        issued_done : (at : Seen) → HasOutcome image at e.operation e.pc (Issued x) → HasOutcome image at e.operation e.pc (Done x)
        issued_done at has = has.1

    -- a store leaves what stands before the oldest conflict
    pub cut_store : IsRising (λ (f : Entry). f.stamp) es → is_store e.operation ≡ true → conflict_in (loads_of es) e.stamp (bytes_in x.outcome) ≡ stamp_if (left_in es i x) es
    cut_store rising store =
        ap (λ (f : Entry). conflict_in (loads_of es) f.stamp (bytes_in x.outcome)) (sym (get_or_from_slice_get es i e e is))
        ∙ queue_conflict image seen pc 0 es i e (bytes_in x.outcome) (slice_get_within es i e is) (growing_whole es rising) sound
        ∙ ap (λ k. conflict_of (drop k es) (bytes_in x.outcome)) (sym (add-one i)) ∙ conflict_stamp (bytes_in x.outcome) (drop (i + 1) es)
        ∙ stamp-drop (clean_length (bytes_in x.outcome) (drop (i + 1) es)) i es (slice_get_within es i e is)
        ∙ ap (λ n. stamp_if (i + 1 + n) es) (kept x.outcome ∙ ap (λ (f : Entry). kept_length f x.outcome (drop (i + 1) es)) (sym here))
      where
        kept : (o : Outcome) → clean_length (bytes_in o) (drop (i + 1) es) ≡ kept_length e o (drop (i + 1) es)
        kept (Stops why) = clean_none (drop (i + 1) es)
        kept (Goes step) = let right = store_predicted e step store in rw right refl

    -- what was guessed right leaves all, where it is no store that conflicts
    pub plain_kept : IsRising (λ (f : Entry). f.stamp) es → is_mispredicted_by e x.outcome ≡ false → (is_store e.operation ≡ true → conflict_in (loads_of es) e.stamp (bytes_in x.outcome) ≡ None) → None ≡ stamp_if (left_in es i x) es
    plain_kept rising right free = go (is_store e.operation) refl
      where
        go : (b : Bool) → is_store e.operation ≡ b → None ≡ stamp_if (left_in es i x) es
        go true store = sym (free store) ∙ cut_store rising store
        go false other = cut_kept right (writes_none other)

-- ---- what is left after a squash

module _ (es : List Entry) (i : ℕ) (x : Execution) (lt : i < length es) where
  -- nothing is
  pub uncut : stamp_if (left_in es i x) es ≡ None → set es i (completed_entry (get_or es i no_entry) x) ≡ complete_in es i x
  uncut none =
      let le = stamp_past (left_in es i x) es none in
      sym (complete_take es i x no_entry lt ∙ take_all (left_in es i x) (set es i (completed_entry (get_or es i no_entry) x)) (omega (arith, le, length-set es i (completed_entry (get_or es i no_entry) x))))

  module _ (k : ℕ) (some : stamp_if (left_in es i x) es ≡ Some k) where
    pub left_within : left_in es i x < length es
    left_within = (stamp_at (left_in es i x) k es some).0

    pub cut : IsRising (λ (f : Entry). f.stamp) (set es i (completed_entry (get_or es i no_entry) x)) → below (λ (f : Entry). f.stamp) k (set es i (completed_entry (get_or es i no_entry) x)) ≡ take (left_in es i x) (set es i (completed_entry (get_or es i no_entry) x))
    cut rising =
        let other : left_in es i x ≢ i = λ same. omega (arith, same) in
        let read : get_or (set es i (completed_entry (get_or es i no_entry) x)) (left_in es i x) no_entry ≡ get_or es (left_in es i x) no_entry = get_or-set_other es i (left_in es i x) (completed_entry (get_or es i no_entry) x) no_entry other in
        let stamp : (get_or (set es i (completed_entry (get_or es i no_entry) x)) (left_in es i x) no_entry).stamp ≡ k = ap (λ (f : Entry). f.stamp) read ∙ (stamp_at (left_in es i x) k es some).1 in
        ap (λ m. below (λ (f : Entry). f.stamp) m (set es i (completed_entry (get_or es i no_entry) x))) (sym stamp)
        ∙ below_at (λ (f : Entry). f.stamp) (set es i (completed_entry (get_or es i no_entry) x)) (left_in es i x) (get_or (set es i (completed_entry (get_or es i no_entry) x)) (left_in es i x) no_entry) rising
        (slice_get-get_or (set es i (completed_entry (get_or es i no_entry) x)) (left_in es i x) no_entry (omega (arith, left_within, length-set es i (completed_entry (get_or es i no_entry) x))))

-- ---- the track

-- an entry that squashes nothing completes
pub complete_whole : (t : Track) (i : ℕ) (x : Execution) → i < length t.context.flight → (finished t i x).renamed ≤ length (finished t i x).context.flight → cut_stamp t.context i x ≡ None → finished t i x ≡ completed t i x
complete_whole t i x lt within none =
    let same : t.renamed ≡ min t.renamed (left_by t.context i x) = omega (arith, within, length-set t.context.flight i (completed_entry (get_or t.context.flight i no_entry) x), stamp_past (left_by t.context i x) t.context.flight none) in
    ap (λ (es : List Entry). record t { context = record t.context { flight = es } }) (uncut t.context.flight i x lt none)
    ∙ ap (λ n. record t { context = record t.context { flight = complete_in t.context.flight i x }; renamed = n }) same

-- one that does
pub complete_cut : (t : Track) (i k : ℕ) (x : Execution) → i < length t.context.flight → IsRising (λ (f : Entry). f.stamp) (finished t i x).context.flight → cut_stamp t.context i x ≡ Some k → cut_at (finished t i x) k ≡ completed t i x
complete_cut t i k x lt rising some =
    let front : below (λ (f : Entry). f.stamp) k (set t.context.flight i (completed_entry (get_or t.context.flight i no_entry) x)) ≡ take (left_by t.context i x) (set t.context.flight i (completed_entry (get_or t.context.flight i no_entry) x)) = cut t.context.flight i x lt k some rising in
    let len : length (take (left_by t.context i x) (set t.context.flight i (completed_entry (get_or t.context.flight i no_entry) x))) ≡ left_by t.context i x =
    omega (arith, left_within t.context.flight i x lt k some, length-take (left_by t.context i x) (set t.context.flight i (completed_entry (get_or t.context.flight i no_entry) x)), length-set t.context.flight i (completed_entry (get_or t.context.flight i no_entry) x)) in
    ap (λ (fs : List Entry). record t { context = record t.context { flight = fs }; renamed = min t.renamed (length fs) }) front
    ∙ ap (λ m. record t { context = record t.context { flight = take (left_by t.context i x) (set t.context.flight i (completed_entry (get_or t.context.flight i no_entry) x)) }; renamed = min t.renamed m }) len
    ∙ ap (λ (fs : List Entry). record t { context = record t.context { flight = fs }; renamed = min t.renamed (left_by t.context i x) }) (sym (complete_take t.context.flight i x no_entry lt))

-- and whose entry stays
pub cut_behind : (t : Track) (i k : ℕ) (x : Execution) → i < length t.context.flight → IsRising (λ (f : Entry). f.stamp) (finished t i x).context.flight → cut_stamp t.context i x ≡ Some k → (get_or (finished t i x).context.flight i no_entry).stamp < k
cut_behind t i k x lt rising some =
    let es : List Entry = t.context.flight in
    let e : Entry = completed_entry (get_or es i no_entry) x in
    let at = stamp_at (left_by t.context i x) k es some in
    let later : (get_or (set es i e) (left_by t.context i x) no_entry).stamp ≡ (get_or es (left_by t.context i x) no_entry).stamp = ap (λ (f : Entry). f.stamp) (get_or-set_other es i (left_by t.context i x) e no_entry (λ same. omega (arith, same))) in
    omega (arith, rising i (left_by t.context i x) no_entry (omega arith) (omega (arith, at.0, length-set es i e)), later, at.1)
