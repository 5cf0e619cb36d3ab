-- An entry issues: what it computes with, and what it leaves of a core.
use Rattle.std.proofs.Common.{◌≡◌, ◌≢◌, ℕ, ◌<◌, ◌≤◌, Bool, true, false, not, ◌&&◌, ◌||◌, List, ◌∷◌, length, get_or, take, map, Option, Some, None, refl, sym, ap, subst, ◌∙◌, arith, inl, inr}
use Rattle.std.specs.Prelude.{◌==◌, set, IfSome}
use Rattle.std.proofs.Math.Seq.{take-set-lt}
use Rattle.std.proofs.lemmas.Bool.{ne_eqb, true≢false, not-false, cases_lt}
use Rattle.std.proofs.lemmas.Option.{same_Some}
use Rattle.std.proofs.lemmas.List.{length-set, length-take-le, map-set, set-get_or, get_or-map, get_or-take, take-take, drop-set-lt}
use Rattle.hart_step.specs.State.{State}
use Rattle.core_view.specs.declared.note.EntryId.{EntryId}
use Rattle.core_view.specs.declared.outcome.Outcome.{Outcome}
use Rattle.core_view.specs.declared.entry.Execution.{Execution}
use Rattle.core_view.specs.declared.entry.Stage.TheVariants.{Fetched, Queued, Issued}
use Rattle.core_view.specs.declared.entry.Entry.{Entry}
use Rattle.core_view.specs.Operations.{is_guessed, first_source_of, second_source_of, stops_at_fetch}
use Rattle.core_view.specs.Outcomes.{image_of, outcome_in}
use Rattle.core_view.specs.Flight.{is_done, seen_of, source_value, HasOutcome, IsOutcome}
use Rattle.core_view.specs.Events.{with_stage}
use Rattle.core_view.specs.Queues.{AllRenamed}
use Rattle.core_view.specs.View.{Context, entry_at, no_entry, seen_at as flight_seen_at}
use Rattle.core_view.proofs.Live.{issue_live}
use Rattle.core_view.proofs.Sound.{sound_at}
use Rattle.data_flow.specs.Flow.{Flow, lane, no_node, both, sources_at}
use Rattle.data_tags.specs.declared.delay.Kind.{Kind}
use Rattle.data_tags.specs.declared.delay.Lag.{Lag}
use Rattle.core_context.specs.Queued.{queued_at}
use Rattle.core_context.specs.Track.{Track, issued}
use Rattle.core_context.specs.Issuable.{IsAnswered, may_issue_at, IsSupplied, IsIssuable, HasIssued}
use Rattle.core_context.specs.Performed.{HasPerformed}
use Rattle.core_context.specs.Cores.{node_of_entry, is_selected, IsCore}
use Rattle.core_context.proofs.Flights.{renamed-set, renamed-take, fetched_after}
use Rattle.core_context.proofs.OtherContexts.{other_core}
use Rattle.core_context.proofs.SourcesSeen.{sources_are}
use Rattle.core_context.proofs.Waiting.{queued_place, same_place, queued-leaves}
use Rattle.core_context.proofs.Queue.{waiters-issue, waiters-other}

-- ---- what issue asks

-- the queues of loads and stores serve an entry that is renamed, and for the one after these
pub core_answered : {start : State} {stamp reorder c : ℕ} {f : Flow} {names : List EntryId} {t : Track} → IsCore start stamp reorder f names c t → (i : ℕ) → i ≤ t.renamed → IsAnswered t.context i
core_answered {t = t} core i le = record {
  renamed = subst AllRenamed (take-take i t.renamed t.context.flight le) (renamed-take i (take t.renamed t.context.flight) core.are_renamed);
  growing = core.live.flight.growing;
  sound = core.live.flight.sound;
}

-- a queued entry doesn't stop at fetch
pub queued_goes : (x : Context) (i : ℕ) → IsAnswered x i → i < length x.flight → (entry_at x i).stage ≡ Queued → stops_at_fetch (entry_at x i).operation ≡ false
queued_goes x i ready lt stage =
    let s = sound_at (image_of x.state) (seen_of x.state) x.state.pc x.flight i no_entry lt ready.sound in
    subst (λ t. HasOutcome (image_of x.state) (flight_seen_at x i) (entry_at x i).operation (entry_at x i).pc t) stage s.outcome

-- ---- the outcome

both_some : (x y : Option ℕ) (a b : ℕ) → both x y ≡ Some (a, b) → (x ≡ Some a) × (y ≡ Some b)
both_some None y a b h = absurd cc
both_some (Some v) None a b h = absurd cc
both_some (Some v) (Some w) a b h = let same : (v, w) ≡ (a, b) = cc in (ap (λ (p : ℕ × ℕ). Some p.0) same, ap (λ (p : ℕ × ℕ). Some p.1) same)

-- the values of the data flow are those of the entry's sources
pub core_sources : {start : State} {stamp reorder c : ℕ} {f : Flow} {names : List EntryId} {t : Track} → IsCore start stamp reorder f names c t → (i : ℕ) → i < t.renamed → (a b : ℕ) → sources_at (lane f c) i ≡ Some (a, b)
    → (source_value (flight_seen_at t.context i).registers (first_source_of (entry_at t.context i).operation) ≡ Some a) × (source_value (flight_seen_at t.context i).registers (second_source_of (entry_at t.context i).operation) ≡ Some b)
core_sources {t = t} core i lt a b sources =
    let seen = flight_seen_at t.context i in
    let e = entry_at t.context i in
    both_some (source_value seen.registers (first_source_of e.operation)) (source_value seen.registers (second_source_of e.operation)) a b (sym (sources_are core i lt) ∙ sources)

-- an outcome on the values of the data flow, over the bytes that are seen, is that of the entry
pub core_outcome : {start : State} {stamp reorder c : ℕ} {f : Flow} {names : List EntryId} {t : Track} → IsCore start stamp reorder f names c t → (i : ℕ) → i < t.renamed → (a b : ℕ) (outcome : Outcome)
    → sources_at (lane f c) i ≡ Some (a, b) → outcome ≡ outcome_in (image_of t.context.state) (flight_seen_at t.context i).bytes (entry_at t.context i).operation (entry_at t.context i).pc a b
    → IsOutcome (image_of t.context.state) (flight_seen_at t.context i) (entry_at t.context i).operation (entry_at t.context i).pc outcome
core_outcome {t = t} core i lt a b outcome sources is =
    let ready = core_sources core i lt a b sources in
    record { first = a; second = b; first_ready = ready.0; second_ready = ready.1; is = is }

-- ---- the entry that was selected

-- a queued entry is renamed
pub queued_renamed : {start : State} {stamp reorder c : ℕ} {f : Flow} {names : List EntryId} {t : Track} → IsCore start stamp reorder f names c t → (i : ℕ) → i < length t.context.flight → (entry_at t.context i).stage ≡ Queued → i < t.renamed
queued_renamed {t = t} core i lt stage =
    elim (cases_lt i t.renamed) [
      | inl below ↦ below
      | inr from ↦ let fetched = fetched_after t.renamed t.context.flight i core.are_fetched from lt in absurd (let bad : Fetched ≡ Queued = sym fetched ∙ stage in cc)
    ]

-- the place of an entry that is queued, and so renamed
pub record IsSelectedPlace (t : Track) (k i : ℕ) : Type 0 where
  pub within : i < length t.context.flight
  pub renamed : i < t.renamed
  pub stamp : (entry_at t.context i).stamp ≡ k
  pub stage : (entry_at t.context i).stage ≡ Queued

pub selected_place : {start : State} {stamp reorder c : ℕ} {f : Flow} {names : List EntryId} {t : Track} → IsCore start stamp reorder f names c t → (k : ℕ) → is_selected names c k ≡ true → (i : ℕ) × IsSelectedPlace t k i
selected_place {t = t} core k h =
    let p = queued_place k t.context.flight (core.selected k h) in
    let q = p.1 in
    (p.0, record { within = q.within; renamed = queued_renamed core p.0 q.within q.stage; stamp = q.stamp; stage = q.stage })

-- there is no other place with its stamp
pub selected_at : {start : State} {stamp reorder c : ℕ} {f : Flow} {names : List EntryId} {t : Track} → IsCore start stamp reorder f names c t → (k i : ℕ) → is_selected names c k ≡ true → i < length t.context.flight → (entry_at t.context i).stamp ≡ k
    → IsSelectedPlace t k i
selected_at {t = t} core k i h lt is =
    let p = selected_place core k h in
    let q = p.1 in
    let same : p.0 ≡ i = same_place 0 t.context.flight p.0 i core.live.flight.growing q.within lt (q.stamp ∙ sym is) in
    subst (IsSelectedPlace t k) same q

-- ---- the entry that may issue

-- the entry with a stamp may issue, where the one at its place has not to wait
pub place_issuable : (f : Flow) (c : ℕ) (t : Track) (k place : ℕ) (values : ℕ × ℕ) (waits : Bool) → IsSupplied f c t k → (place < length t.context.flight) × ((entry_at t.context place).stamp ≡ k) → Some values ≡ sources_at (lane f c) place
    → ((second : ℕ) → waits ≡ not (may_issue_at t.context place values.0 second)) → waits ≡ false → IsIssuable f c t k
place_issuable f c t k place values waits supplied there sources is goes = record {
  queued = supplied.queued;
  here = λ i lt stamp.
      let one = supplied.here i lt stamp in
      let same : place ≡ i = same_place 0 t.context.flight place i one.answered.growing there.0 lt (there.1 ∙ sym stamp) in
      record { supplied = one; clear = λ a b known. subst (λ j. may_issue_at t.context j a b ≡ true) same (clear a b (sources ∙ ap (sources_at (lane f c)) same ∙ known)) };
}
  where
    clear : (a b : ℕ) → Some values ≡ Some (a, b) → may_issue_at t.context place a b ≡ true
    clear a b known = subst (λ (v : ℕ × ℕ). may_issue_at t.context place v.0 v.1 ≡ true) (same_Some values (a, b) known) (not-false (may_issue_at t.context place values.0 values.1) (sym (is values.1) ∙ goes))

-- ---- what an event says of it

-- the entry at a place issued, if it did, on the values of its sources
pub issued_if_some : (says : Kind → ℕ → Outcome → Lag → Type 0) (f : Flow) (c cycle i a b : ℕ) (old new : Track) (r : Option Lag) → i < length old.context.flight → Some (a, b) ≡ sources_at (lane f c) i → IfSome r (λ _. may_issue_at old.context i a b ≡ true)
    → IfSome r (HasPerformed says a b cycle i old new) → IfSome r (HasIssued says f c (entry_at old.context i).stamp cycle old new)
issued_if_some says f c cycle i a b old new None lt sources clear performed = tt
issued_if_some says f c cycle i a b old new (Some lag) lt sources clear performed = record { place = i; first = a; second = b; within = lt; stamp = refl; sources = sym sources; clear = clear; stated = performed.stated; after = performed.after }

-- ---- the core once it has issued

issued_node : (e : Entry) (x : Execution) → e.stage ≡ Queued → node_of_entry (with_stage e (Issued x)) ≡ node_of_entry e
issued_node e x stage = rw stage refl

pub issue_core : {start : State} {stamp reorder c k : ℕ} {f : Flow} {names : List EntryId} {t : Track} → IsCore start stamp reorder f (record { context = c; stamp = k } ∷ names) c t → (i : ℕ) (x : Execution) (a b : ℕ)
    → is_selected names c k ≡ false → i < length t.context.flight → (entry_at t.context i).stamp ≡ k → (entry_at t.context i).stage ≡ Queued → sources_at (lane f c) i ≡ Some (a, b)
    → may_issue_at t.context i a b ≡ true → x.outcome ≡ outcome_in (image_of t.context.state) (flight_seen_at t.context i).bytes (entry_at t.context i).operation (entry_at t.context i).pc a b
    → IsCore start stamp reorder f names c (issued t i x)
issue_core {start = start} {stamp = stamp} {c = c} {k = k} {f = f} {names = names} {t = t} core i x a b other lt is stage sources may outcome =
    let e = entry_at t.context i in
    let n = with_stage e (Issued x) in
    let below : i < t.renamed = queued_renamed core i lt stage in
    let front : take t.renamed (set t.context.flight i n) ≡ set (take t.renamed t.context.flight) i n = take-set-lt t.renamed t.context.flight i n below in
    record {
      live = issue_live start stamp t.context i x lt stage (core_outcome core i below a b x.outcome sources outcome) core.live;
      registers = core.registers;
      nodes = core.nodes ∙ sym (ap (map node_of_entry) front ∙ issued_nodes below);
      room = core.room;
      within = omega (arith, core.within, length-set t.context.flight i n);
      fits = core.fits;
      front = omega (arith, core.front, length-set t.context.flight i n);
      capacity = core.capacity;
      are_renamed = rw front (renamed-set (take t.renamed t.context.flight) i n refl core.are_renamed);
      are_fetched = rw (drop-set-lt t.renamed t.context.flight i n below) core.are_fetched;
      waiting = core.waiting ∙ sym (waiters-issue names c k 0 t.context.flight i n core.live.flight.growing lt is is (ap (λ s. is_guessed e.operation && not (is_done s)) (sym stage)) refl);
      selected = selected;
    }
  where
    issued_nodes : i < t.renamed → map node_of_entry (set (take t.renamed t.context.flight) i (with_stage (entry_at t.context i) (Issued x))) ≡ map node_of_entry (take t.renamed t.context.flight)
    issued_nodes below =
        let es = take t.renamed t.context.flight in
        let e = entry_at t.context i in
        let here : get_or (map node_of_entry es) i no_node ≡ node_of_entry e =
        get_or-map node_of_entry es i no_entry no_node (omega (arith, length-take-le t.renamed t.context.flight core.within)) ∙ ap node_of_entry (get_or-take t.renamed t.context.flight i no_entry below) in
        map-set node_of_entry es i (with_stage e (Issued x)) ∙ ap (set (map node_of_entry es) i) (issued_node e x stage ∙ sym here) ∙ set-get_or (map node_of_entry es) i no_node

    apart : (j : ℕ) → is_selected names c j ≡ true → (j == k) ≡ false
    apart j h = ne_eqb j k (λ same. absurd (true≢false (sym h ∙ ap (is_selected names c) same ∙ other)))

    or_right_true : (a b : Bool) → b ≡ true → (a || b) ≡ true
    or_right_true true b h = refl
    or_right_true false b h = h

    selected : (j : ℕ) → is_selected names c j ≡ true → queued_at j (set t.context.flight i (with_stage (entry_at t.context i) (Issued x))) ≡ true
    selected j h =
        let n = with_stage (entry_at t.context i) (Issued x) in
        let named : is_selected (record { context = c; stamp = k } ∷ names) c j ≡ true = or_right_true ((c == c) && (k == j)) (is_selected names c j) h in
        queued-leaves j 0 t.context.flight i n core.live.flight.growing lt (rw stage refl) refl refl
        ∙ ap (λ b. b && not (j == (entry_at t.context i).stamp)) (core.selected j named) ∙ ap (λ s. not (j == s)) is ∙ ap not (apart j h)

-- ---- the other contexts

-- the names of a context are the same without one of another
pub selected_other : (names : List EntryId) (c k d j : ℕ) → d ≢ c → is_selected (record { context = c; stamp = k } ∷ names) d j ≡ is_selected names d j
selected_other names c k d j ne = let away : (c == d) ≡ false = ne_eqb c d (λ same. ne (sym same)) in rw away refl

-- where an entry of another context issues
pub issue_other : {start : State} {stamp reorder c k d : ℕ} {f : Flow} {names : List EntryId} {t : Track} → IsCore start stamp reorder f (record { context = c; stamp = k } ∷ names) d t → d ≢ c → IsCore start stamp reorder f names d t
issue_other {start = start} {stamp = stamp} {reorder = reorder} {c = c} {k = k} {d = d} {f = f} {names = names} {t = t} core ne =
    other_core start stamp stamp reorder f f (record { context = c; stamp = k } ∷ names) names d t core refl
    (core.waiting ∙ waiters-other names c k d t.context.flight ne) (λ j h. core.selected j (selected_other names c k d j ne ∙ h)) (omega arith)
