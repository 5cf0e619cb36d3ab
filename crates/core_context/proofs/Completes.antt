-- An entry of a context completes, and squashes what it doesn't keep.
use Rattle.std.proofs.Common.{◌≡◌, ℕ, zero, suc, ◌+◌, ◌<◌, ◌≤◌, Bool, true, false, not, ◌&&◌, min, List, [], ◌∷◌, length, get_or, take, drop, map, Option, Some, None, refl, sym, ap, subst, ◌∙◌, arith, inl, inr}
use Rattle.std.specs.Prelude.{set, ◌==◌, nat_lt, if◌then◌else◌, filter}
use Rattle.std.proofs.lemmas.Bool.{lt-ltb, le-ltb, ltb-true, ltb-false, cases_lt}
use Rattle.std.proofs.lemmas.List.{length-map, length-set, length-take, length-take-le, get_or-map, get_or-take, get_or-set_other, set-get_or, map-set, drop_all, take_all, take-take, drop-set-lt}
use Rattle.std.proofs.Math.Seq.{take-set-lt}
use Rattle.hart_step.specs.State.{State}
use Rattle.core_view.specs.declared.entry.Execution.{Execution}
use Rattle.std.specs.List.{list_any}
use Rattle.core_view.specs.declared.entry.Stage.{Stage}
use Rattle.core_view.specs.declared.entry.Stage.TheVariants.{Fetched, Queued, Issued, Done}
use Rattle.core_view.specs.declared.entry.Entry.{Entry}
use Rattle.core_view.specs.Operations.{destination_of, is_guessed}
use Rattle.core_view.specs.Flight.{result_of, result_in, is_done, IsGrowing, is_queued, is_open_guess}
use Rattle.core_view.specs.Queues.{is_renamed, AllRenamed}
use Rattle.core_view.specs.View.{entry_at, no_entry}
use Rattle.core_view.specs.Events.{completed_entry, complete_in, kept_length}
use Rattle.core_view.proofs.RingForm.{complete_take, kept_take}
use Rattle.core_view.proofs.Live.{complete_live}
use Rattle.data_flow.specs.Flow.{Node, Lane, Flow, Waiter, no_node, node_at, lane, with_result, result_for, cut_from, cut_flow, left_in}
use Rattle.core_context.specs.Track.{Track, left_by, completed, cut_stamp}
use Rattle.core_context.specs.Queued.{is_behind, waiting_of, waiter_for, up_to_guess, settled}
use Rattle.core_context.specs.Steps.{cut_if, finished_flow, cut_by, settled_flow, completed_flow, AreTold}
use Rattle.core_context.specs.Cores.{operands_of, node_of_entry, AllFetched, is_waiting, waiters_of, IsCore}
use Rattle.core_context.proofs.Waiting.{and_none, growing_at, growing_set, none_below, below-take, below-nodes}
use Rattle.core_context.proofs.Queue.{map_waiting, waiting-cut, waiters-flights, waiters-left, waiters-stay, behind-set, behind_at, none_selected}
use Rattle.core_context.proofs.Settles.{none_open, settled_told, settled_unmarked, settled_later, waiting-settled, behind_closed, settles}
use Rattle.core_context.proofs.OtherContexts.{lane-with_same, lane-cut_same}
use Rattle.core_context.proofs.FlowSizes.{sizes-finished_flow}
use Rattle.core_context.proofs.CoreOfFlight.{IsFlightCore, core_from}
use Rattle.core_context.proofs.Flights.{growing_take}
use Rattle.core_context.proofs.Stages.{renamed_place, renamed_set, renamed_take, fetched_drop_take}

-- ---- a completion leaves no more entries

pub complete_fewer : (es : List Entry) (i : ℕ) (x : Execution) → length (complete_in es i x) ≤ length es
complete_fewer [] i x = omega arith
complete_fewer (e ∷ es) zero x = omega (arith, ap length (kept_take e x.outcome es), length-take (kept_length e x.outcome es) es)
complete_fewer (e ∷ es) (suc i) x = omega (arith, complete_fewer es i x)

-- ---- the entries below the stamp at a place, among the oldest

pub below-take_front : (low r : ℕ) (es : List Entry) (n : ℕ) → IsGrowing low es → n < length es → filter (λ e. nat_lt e.stamp (get_or es n no_entry).stamp) (take r es) ≡ take r (take n es)
below-take_front low zero es n g lt = refl
below-take_front low (suc r) [] n g lt = absurd (omega arith)
below-take_front low (suc r) (e ∷ es) zero g lt =
    let here : nat_lt e.stamp e.stamp ≡ false = le-ltb e.stamp e.stamp (omega arith) in
    rw here (none_below e.stamp (e.stamp + 1) (take r es) (growing_take (e.stamp + 1) r es g.1) (omega arith))
below-take_front low (suc r) (e ∷ es) (suc n) g lt =
    let later = growing_at (e.stamp + 1) es n g.1 (omega arith) in
    let before : nat_lt e.stamp (get_or es n no_entry).stamp ≡ true = lt-ltb e.stamp (get_or es n no_entry).stamp (omega (arith, later)) in
    rw before (ap (λ fs. e ∷ fs) (below-take_front (e.stamp + 1) r es n g.1 (omega arith)))

take_min_take : (r n : ℕ) (es : List Entry) → take (min r n) (take n es) ≡ take r (take n es)
take_min_take r n es = elim (cases_lt r n) [
  | inl lt ↦ (let less : min r n ≡ r = omega arith in rw less refl)
  | inr le ↦ (let less : min r n ≡ n = omega arith in rw less (take-take n n es (omega arith) ∙ sym (take_all r (take n es) (omega (arith, length-take n es)))))
]

-- the fetched entries that are left
fetched_left : (r n : ℕ) (es : List Entry) → AllFetched (drop r es) → AllFetched (drop (min r n) (take n es))
fetched_left r n es a = elim (cases_lt r n) [
  | inl lt ↦ (let less : min r n ≡ r = omega arith in rw less (fetched_drop_take r n es a))
  | inr le ↦ (let less : min r n ≡ n = omega arith in rw (less, drop_all n (take n es) (omega (arith, length-take n es))) tt)
]

module _ (start : State) (stamp reorder : ℕ) (f : Flow) (c : ℕ) (t : Track) (i : ℕ) (x : Execution) where
  -- ---- what the call asks

  -- an issued entry is renamed
  pub issued_renamed : IsCore start stamp reorder f [] c t → i < length t.context.flight → (entry_at t.context i).stage ≡ Issued x → i < t.renamed
  issued_renamed core lt stage = renamed_place t.renamed t.context.flight i core.are_fetched lt (ap is_renamed stage)

  -- so the data flow has it
  pub issued_known : IsCore start stamp reorder f [] c t → i < length t.context.flight → (entry_at t.context i).stage ≡ Issued x → i < length (lane f c).nodes
  issued_known core lt stage =
      let first = issued_renamed core lt stage in
      omega (arith, first, ap length core.nodes, length-map (take t.renamed t.context.flight) node_of_entry, length-take-le t.renamed t.context.flight core.within)

  pub issued_node : IsCore start stamp reorder f [] c t → i < length t.context.flight → (entry_at t.context i).stage ≡ Issued x → node_at (lane f c) i ≡ node_of_entry (entry_at t.context i)
  issued_node core lt stage =
      let first = issued_renamed core lt stage in
      let len : length (take t.renamed t.context.flight) ≡ t.renamed = length-take-le t.renamed t.context.flight core.within in
      ap (λ (ns : List Node). get_or ns i no_node) core.nodes ∙ get_or-map node_of_entry (take t.renamed t.context.flight) i no_entry no_node (omega (arith, first, len))
      ∙ ap node_of_entry (get_or-take t.renamed t.context.flight i no_entry first)

  -- ---- the entry is done, before the squash

  -- the flight with the entry done
  abbrev done_flight : List Entry
  done_flight = set t.context.flight i (completed_entry (entry_at t.context i) x)

  -- the data flow with its result
  abbrev done_flow : Flow
  done_flow = finished_flow f c i (result_in x.outcome)

  -- an instruction of its operands, with a result where it has a destination
  abbrev node_with : Option ℕ → Node
  node_with result = record { operands = operands_of (entry_at t.context i); result = if destination_of (entry_at t.context i).operation == 0 then None else result }

  finished_nodes : (value : Option ℕ) → c < length f.lanes → node_at (lane f c) i ≡ node_of_entry (entry_at t.context i) → (entry_at t.context i).stage ≡ Issued x
      → (lane (finished_flow f c i value) c).nodes ≡ set (lane f c).nodes i (node_with value)
  finished_nodes None within node stage =
      let same : node_of_entry (entry_at t.context i) ≡ node_with None = ap node_with (ap result_of stage) in
      sym (ap (set (lane f c).nodes i) (sym same ∙ sym node) ∙ set-get_or (lane f c).nodes i no_node)
  finished_nodes (Some value) within node stage =
      ap (λ (l : Lane). l.nodes) (lane-with_same f c (with_result (lane f c) i value) within) ∙ ap (λ (m : Node). set (lane f c).nodes i (record m { result = result_for m.operands value })) node

  done_nodes : c < length f.lanes → IsCore start stamp reorder f [] c t → i < length t.context.flight → (entry_at t.context i).stage ≡ Issued x
      → (lane done_flow c).nodes ≡ map node_of_entry (take t.renamed done_flight)
  done_nodes within core lt stage =
      let e = entry_at t.context i in
      finished_nodes (result_in x.outcome) within (issued_node core lt stage) stage
      ∙ ap (λ (ns : List Node). set ns i (node_of_entry (completed_entry e x))) core.nodes ∙ sym (map-set node_of_entry (take t.renamed t.context.flight) i (completed_entry e x))
      ∙ ap (map node_of_entry) (sym (take-set-lt t.renamed t.context.flight i (completed_entry e x) (issued_renamed core lt stage)))

  -- what else is known of the context stays
  done_lane : (value : Option ℕ) → c < length f.lanes → ((lane (finished_flow f c i value) c).registers ≡ (lane f c).registers) × ((lane (finished_flow f c i value) c).room ≡ (lane f c).room)
  done_lane None within = (refl, refl)
  done_lane (Some value) within =
      let here = lane-with_same f c (with_result (lane f c) i value) within in
      (ap (λ (l : Lane). l.registers) here, ap (λ (l : Lane). l.room) here)

  done_waits : (value : Option ℕ) → waiting_of (finished_flow f c i value) c ≡ waiting_of f c
  done_waits None = refl
  done_waits (Some value) = refl

  -- what waits has the marks of the flight before
  abbrev waiters_left : List Entry → List Waiter
  waiters_left es = map (waiter_for c t.context.flight) (filter (is_waiting [] c) es)

  done_waiting : IsCore start stamp reorder f [] c t → waiting_of done_flow c ≡ waiters_left t.context.flight
  done_waiting core = done_waits (result_in x.outcome) ∙ core.waiting

  -- ---- the squash

  -- what the squash leaves of the data flow, once it leaves so many entries
  record IsCut (g : Flow) (n : ℕ) : Type 0 where
    nodes : (lane g c).nodes ≡ map node_of_entry (take t.renamed (take n done_flight))
    registers : (lane g c).registers ≡ (lane f c).registers
    room : (lane g c).room ≡ (lane f c).room
    waits : waiting_of g c ≡ waiters_left (take n done_flight)

  -- nothing is squashed
  whole : (n : ℕ) → length t.context.flight ≤ n → c < length f.lanes → IsCore start stamp reorder f [] c t → i < length t.context.flight → (entry_at t.context i).stage ≡ Issued x → IsCut done_flow n
  whole n le within core lt stage =
      let all : done_flight ≡ take n done_flight = sym (take_all n done_flight (omega (arith, le, length-set t.context.flight i (completed_entry (entry_at t.context i) x)))) in
      let kept = done_lane (result_in x.outcome) within in
      record {
        nodes = done_nodes within core lt stage ∙ ap (λ es. map node_of_entry (take t.renamed es)) all;
        registers = kept.0;
        room = kept.1;
        waits = done_waiting core ∙ waiters-stay [] c t.context.flight i (completed_entry (entry_at t.context i) x) (waiter_for c t.context.flight) refl (ap is_queued stage) ∙ ap waiters_left all;
      }

  -- the flight is squashed from a place on
  cut_at : (n : ℕ) → i < n → n < length t.context.flight → c < length f.lanes → IsCore start stamp reorder f [] c t → i < length t.context.flight → (entry_at t.context i).stage ≡ Issued x
      → IsCut (cut_flow done_flow c (entry_at t.context n).stamp) n
  cut_at n past inside within core lt stage =
      let e : Entry = completed_entry (entry_at t.context i) x in
      let s : ℕ = (entry_at t.context n).stamp in
      let first : (get_or done_flight n no_entry).stamp ≡ s = ap (λ (y : Entry). y.stamp) (get_or-set_other t.context.flight i n e no_entry (λ same. omega (arith, past, same))) in
      let grows : IsGrowing 0 done_flight = growing_set 0 t.context.flight i e lt refl core.live.flight.growing in
      let there : n < length done_flight = omega (arith, inside, length-set t.context.flight i e) in
      let here : lane (cut_flow done_flow c s) c ≡ cut_from (lane done_flow c) s = lane-cut_same done_flow c s (omega (arith, within, (sizes-finished_flow f c i (result_in x.outcome)).lanes)) in
      let kept = done_lane (result_in x.outcome) within in
      record {
        nodes = ap (λ (l : Lane). l.nodes) here ∙ ap (λ (ns : List Node). filter (λ m. nat_lt m.operands.stamp s) ns) (done_nodes within core lt stage) ∙ below-nodes s (take t.renamed done_flight)
            ∙ ap (map node_of_entry) (subst (λ z. filter (λ y. nat_lt y.stamp z) (take t.renamed done_flight) ≡ take t.renamed (take n done_flight)) first (below-take_front 0 t.renamed done_flight n grows there));
        registers = ap (λ (l : Lane). l.registers) here ∙ kept.0;
        room = ap (λ (l : Lane). l.room) here ∙ kept.1;
        waits = waiting-cut done_flow c s ∙ ap (filter (λ w. nat_lt w.stamp s)) (done_waiting core) ∙ waiters-left [] c s t.context.flight i e (waiter_for c t.context.flight) (λ y. refl) refl (ap is_queued stage)
            ∙ ap waiters_left (subst (λ z. filter (λ y. nat_lt y.stamp z) done_flight ≡ take n done_flight) first (below-take 0 done_flight n grows there));
      }

  is_cut : c < length f.lanes → IsCore start stamp reorder f [] c t → i < length t.context.flight → (entry_at t.context i).stage ≡ Issued x → IsCut (cut_by f c i x t.context) (left_by t.context i x)
  is_cut within core lt stage = by_test (whole n) (cut_at n (omega arith)) (nat_lt n (length t.context.flight)) refl
    where
      n : ℕ
      n = left_by t.context i x

      by_test : (length t.context.flight ≤ n → c < length f.lanes → IsCore start stamp reorder f [] c t → i < length t.context.flight → (entry_at t.context i).stage ≡ Issued x → IsCut done_flow n)
          → (n < length t.context.flight → c < length f.lanes → IsCore start stamp reorder f [] c t → i < length t.context.flight → (entry_at t.context i).stage ≡ Issued x → IsCut (cut_flow done_flow c (entry_at t.context n).stamp) n)
          → (b : Bool) → nat_lt n (length t.context.flight) ≡ b → IsCut (cut_if done_flow c (if b then Some (entry_at t.context n).stamp else None)) n
      by_test none some true is = some (ltb-true n (length t.context.flight) is) within core lt stage
      by_test none some false is = none (ltb-false n (length t.context.flight) is) within core lt stage

  -- so many instructions are below the stamp from which all are squashed as entries are renamed then
  pub cut_count : c < length f.lanes → IsCore start stamp reorder f [] c t → i < length t.context.flight → (entry_at t.context i).stage ≡ Issued x → (s : ℕ) → cut_stamp t.context i x ≡ Some s
      → (completed t i x).renamed ≡ left_in done_flow c s
  cut_count within core lt stage s is =
      let n : ℕ = left_by t.context i x in
      let cut = is_cut within core lt stage in
      let there : c < length done_flow.lanes = omega (arith, within, (sizes-finished_flow f c i (result_in x.outcome)).lanes) in
      let here : lane (cut_by f c i x t.context) c ≡ cut_from (lane done_flow c) s = ap (λ o. lane (cut_if done_flow c o) c) is ∙ lane-cut_same done_flow c s there in
      let len : left_in done_flow c s ≡ min t.renamed (min n (length done_flight)) =
      ap (λ (l : Lane). length l.nodes) (sym here) ∙ ap length cut.nodes ∙ length-map (take t.renamed (take n done_flight)) node_of_entry ∙ length-take t.renamed (take n done_flight) ∙ ap (min t.renamed) (length-take n done_flight) in
      omega (arith, len, core.within, length-set t.context.flight i (completed_entry (entry_at t.context i) x))

  -- ---- the marks

  -- of the entries before it none is marked that is behind no open guess
  told_left : (r : ℕ) (g : Flow) → IsCut g r → IsCore start stamp reorder f [] c t → i < length t.context.flight → i < r → (n : ℕ) → n ≤ i → AreTold g c (take r done_flight) n
  told_left r g cut core lt past n le none = settled_told g c (take n es) by_waiting
    where
      es : List Entry
      es = take r done_flight

      e : Entry
      e = completed_entry (entry_at t.context i) x

      grows : IsGrowing 0 es
      grows = growing_take 0 r done_flight (growing_set 0 t.context.flight i e lt refl core.live.flight.growing)

      same : (m : ℕ) → m < i → get_or es m no_entry ≡ get_or t.context.flight m no_entry
      same m before = get_or-take r done_flight m no_entry (omega (arith, before, past)) ∙ get_or-set_other t.context.flight i m e no_entry (λ is. omega (arith, before, is))

      -- an entry before it was marked as what is open before it says
      unmarked : (j : ℕ) → j < n → is_behind (get_or es j no_entry).stamp t.context.flight ≡ false
      unmarked j before =
          ap (λ (y : Entry). is_behind y.stamp t.context.flight) (same j (omega (arith, before, le)))
          ∙ behind_at 0 t.context.flight j core.live.flight.growing (omega (arith, before, le, lt))
          ∙ none_open t.context.flight j (omega (arith, before, le, lt)) (λ m older. ap is_open_guess (sym (same m (omega (arith, older, before, le)))) ∙ none m (omega (arith, older, before)))

      told : (j : ℕ) → j < length es → settled c (take n es) (waiter_for c t.context.flight (get_or es j no_entry)) ≡ waiter_for c t.context.flight (get_or es j no_entry)
      told j within = elim (cases_lt j n) [ inl before ↦ settled_unmarked c (take n es) (waiter_for c t.context.flight (get_or es j no_entry)) (unmarked j before) | inr from ↦ settled_later c n j t.context.flight es grows from within ]

      map_both : (ys : List Entry) → map (settled c (take n es)) (map (waiter_for c t.context.flight) ys) ≡ map (λ y. settled c (take n es) (waiter_for c t.context.flight y)) ys
      map_both [] = refl
      map_both (y ∷ ys) = ap (λ ws. settled c (take n es) (waiter_for c t.context.flight y) ∷ ws) (map_both ys)

      by_waiting : map (settled c (take n es)) (waiting_of g c) ≡ waiting_of g c
      by_waiting =
          ap (map (settled c (take n es))) cut.waits ∙ map_both (filter (is_waiting [] c) es)
          ∙ map_waiting [] c (λ y. settled c (take n es) (waiter_for c t.context.flight y)) (waiter_for c t.context.flight) es (λ j within queued. told j within) ∙ sym cut.waits

  -- an entry that is left has before it in flight what it had
  behind_left : (n : ℕ) → IsCore start stamp reorder f [] c t → i < length t.context.flight → (j : ℕ) → j < length (take n done_flight) → is_behind (get_or (take n done_flight) j no_entry).stamp (take n done_flight) ≡ is_behind (get_or (take n done_flight) j no_entry).stamp done_flight
  behind_left n core lt j within =
      let growing : IsGrowing 0 done_flight = growing_set 0 t.context.flight i (completed_entry (entry_at t.context i) x) lt refl core.live.flight.growing in
      let before : j < n = omega (arith, within, length-take n done_flight) in
      let there : j < length done_flight = omega (arith, within, length-take n done_flight) in
      behind_at 0 (take n done_flight) j (growing_take 0 n done_flight growing) within ∙ ap (list_any is_open_guess) (take-take j n done_flight (omega (arith, before)))
      ∙ sym (behind_at 0 done_flight j growing there) ∙ ap (λ (y : Entry). is_behind y.stamp done_flight) (sym (get_or-take n done_flight j no_entry before))

  -- the marks are those of the flight that is left
  settled_waiting : (n : ℕ) (g : Flow) (u : Track) → IsCut g n → IsCore start stamp reorder f [] c t → i < length t.context.flight → (entry_at t.context i).stage ≡ Issued x → u.renamed ≡ min t.renamed n → u.context.flight ≡ take n done_flight → AllFetched (drop (min t.renamed n) (take n done_flight))
      → (b : Bool) → is_guessed (entry_at t.context i).operation ≡ b → waiting_of (if b then settled_flow g c u else g) c ≡ waiters_of [] c (take n done_flight)
  settled_waiting n g u cut core lt stage renamed flight fetched true guess =
      let closed : is_open_guess (completed_entry (entry_at t.context i) x) ≡ false = and_none (is_guessed (entry_at t.context i).operation) in
      let es : List Entry = take n done_flight in
      let asked : up_to_guess (take u.renamed u.context.flight) ≡ up_to_guess (take (min t.renamed n) es) = ap (λ k. up_to_guess (take k u.context.flight)) renamed ∙ ap (λ fs. up_to_guess (take (min t.renamed n) fs)) flight in
      waiting-settled g c (up_to_guess (take u.renamed u.context.flight)) ∙ ap (λ fs. map (settled c fs) (waiting_of g c)) asked ∙ ap (map (settled c (up_to_guess (take (min t.renamed n) es)))) cut.waits
      ∙ map_both (filter (is_waiting [] c) es)
      ∙ map_waiting [] c (λ y. settled c (up_to_guess (take (min t.renamed n) es)) (waiter_for c t.context.flight y)) (waiter_for c es) es
      (settles c (min t.renamed n) t.context.flight es (growing_take 0 n done_flight (growing_set 0 t.context.flight i (completed_entry (entry_at t.context i) x) lt refl core.live.flight.growing))
      (λ j within queued. renamed_place (min t.renamed n) es j fetched within (queued_is_renamed (get_or es j no_entry).stage queued))
      (λ j within open_. behind_closed (get_or es j no_entry).stamp t.context.flight i (completed_entry (entry_at t.context i) x) closed (sym (behind_left n core lt j within) ∙ open_)))
    where
      map_both : (ys : List Entry) → map (settled c (up_to_guess (take (min t.renamed n) (take n done_flight)))) (map (waiter_for c t.context.flight) ys) ≡ map (λ y. settled c (up_to_guess (take (min t.renamed n) (take n done_flight))) (waiter_for c t.context.flight y)) ys
      map_both [] = refl
      map_both (y ∷ ys) = ap (λ ws. settled c (up_to_guess (take (min t.renamed n) (take n done_flight))) (waiter_for c t.context.flight y) ∷ ws) (map_both ys)

      queued_is_renamed : (s : Stage) → is_queued s ≡ true → is_renamed s ≡ true
      queued_is_renamed Fetched h = h
      queued_is_renamed Queued h = refl
      queued_is_renamed (Issued y) h = refl
      queued_is_renamed (Done y) h = refl
  settled_waiting n g u cut core lt stage renamed flight fetched false guess =
      cut.waits ∙ waiters-flights [] c t.context.flight (take n done_flight) (take n done_flight) (λ j within queued.
      sym (behind_left n core lt j within ∙ behind-set (get_or (take n done_flight) j no_entry).stamp t.context.flight i (completed_entry (entry_at t.context i) x) lt refl
      (ap (λ b. b && not (is_done (Done x))) guess ∙ sym (ap (λ b. b && not (is_done (entry_at t.context i).stage)) guess))))

  -- ---- the context

  cut_flight : (n : ℕ) (g h : Flow) → IsCut g n → lane h c ≡ lane g c → waiting_of h c ≡ waiters_of [] c (take n done_flight) → i < n → IsCore start stamp reorder f [] c t → i < length t.context.flight → (entry_at t.context i).stage ≡ Issued x
      → IsFlightCore reorder h [] c (min t.renamed n) (take n done_flight)
  cut_flight n g h cut same waits past core lt stage =
      let e : Entry = completed_entry (entry_at t.context i) x in
      let first = issued_renamed core lt stage in
      let len : length (take n done_flight) ≡ min n (length t.context.flight) = length-take n done_flight ∙ ap (min n) (length-set t.context.flight i e) in
      let front : take (min t.renamed n) (take n done_flight) ≡ take t.renamed (take n done_flight) = take_min_take t.renamed n done_flight in
      record {
        nodes = ap (λ (l : Lane). l.nodes) same ∙ cut.nodes ∙ ap (map node_of_entry) (sym front);
        room = ap (λ (l : Lane). l.room) same ∙ cut.room ∙ core.room;
        within = omega (arith, len, core.within);
        fits = omega (arith, core.fits);
        front = omega (arith, len, core.front);
        are_renamed = subst AllRenamed (sym front) (renamed_take t.renamed n done_flight (renamed_set t.renamed t.context.flight i e refl core.are_renamed));
        are_fetched = fetched_left t.renamed n done_flight (subst AllFetched (sym (drop-set-lt t.renamed t.context.flight i e first)) core.are_fetched);
        waiting = waits;
        selected = none_selected c (take n done_flight);
      }

  -- what the call that settles the marks asks
  pub told_completed : c < length f.lanes → IsCore start stamp reorder f [] c t → i < length t.context.flight → (entry_at t.context i).stage ≡ Issued x → (n : ℕ) → n ≤ i → AreTold (cut_by f c i x t.context) c (completed t i x).context.flight n
  told_completed within core lt stage n le =
      let cuts : take (left_by t.context i x) done_flight ≡ complete_in t.context.flight i x = sym (complete_take t.context.flight i x no_entry lt) in
      subst (λ es. AreTold (cut_by f c i x t.context) c es n) cuts (told_left (left_by t.context i x) (cut_by f c i x t.context) (is_cut within core lt stage) core lt (omega arith) n le)

  -- the entry at a place completes
  pub complete_core : c < length f.lanes → IsCore start stamp reorder f [] c t → i < length t.context.flight → (entry_at t.context i).stage ≡ Issued x
      → IsCore start stamp reorder (completed_flow f c i x t) [] c (completed t i x)
  complete_core within core lt stage =
      let n : ℕ = left_by t.context i x in
      let g : Flow = cut_by f c i x t.context in
      let cut : IsCut g n = is_cut within core lt stage in
      let cuts : complete_in t.context.flight i x ≡ take n done_flight = complete_take t.context.flight i x no_entry lt in
      let fetched : AllFetched (drop (min t.renamed n) (take n done_flight)) =
      fetched_left t.renamed n done_flight (subst AllFetched (sym (drop-set-lt t.renamed t.context.flight i (completed_entry (entry_at t.context i) x) (issued_renamed core lt stage))) core.are_fetched) in
      let waits = settled_waiting n g (completed t i x) cut core lt stage refl cuts fetched (is_guessed (entry_at t.context i).operation) refl in
      let same : lane (completed_flow f c i x t) c ≡ lane g c = by_guess (is_guessed (entry_at t.context i).operation) in
      core_from start stamp reorder (completed_flow f c i x t) [] c (completed t i x) (min t.renamed n) (take n done_flight) refl cuts
      (complete_live start stamp t.context i x lt stage core.live) (ap (λ (l : Lane). l.registers) same ∙ cut.registers ∙ core.registers) core.capacity (cut_flight n g (completed_flow f c i x t) cut same waits (omega arith) core lt stage)
    where
      by_guess : (b : Bool) → lane (if b then settled_flow (cut_by f c i x t.context) c (completed t i x) else cut_by f c i x t.context) c ≡ lane (cut_by f c i x t.context) c
      by_guess true = refl
      by_guess false = refl
