-- The oldest fetched entry is renamed: what that asks, and what it leaves of a core.
use Rattle.std.proofs.Common.{◌≡◌, ◌≢◌, ℕ, zero, suc, ◌+◌, ◌<◌, Bool, true, false, not, ◌&&◌, List, [], ◌∷◌, ◌++◌, length, get_or, take, drop, map, Option, None, refl, sym, ap, subst, ◌∙◌, arith}
use Rattle.std.specs.Prelude.{◌==◌, set, if◌then◌else◌, All}
use Rattle.std.proofs.lemmas.Bool.{or_parts, eqb-true}
use Rattle.std.proofs.lemmas.List.Elements.{All-map, All-push, All-from_get_or}
use Rattle.std.proofs.lemmas.List.{length-set, length-take-le, get_or-take, take_more_set, drop_more, drop-set-lt, map_push}
use Rattle.hart_step.specs.State.{State}
use Rattle.core_view.specs.declared.note.EntryId.{EntryId}
use Rattle.core_view.specs.declared.operation.Operation.{Operation}
use Rattle.core_view.specs.declared.operation.Operation.TheVariants as operation
use Rattle.core_view.specs.declared.entry.Stage.TheVariants.{Fetched}
use Rattle.core_view.specs.declared.entry.Entry.{Entry}
use Rattle.core_view.specs.Operations.{stops_at_fetch, is_load, is_guessed, destination_of}
use Rattle.core_view.specs.Flight.{is_done, IsGrowing, result_of, is_queued, is_open_guess}
use Rattle.core_view.specs.Events.{with_stage, renamed_stage}
use Rattle.core_view.specs.Queues.{is_renamed}
use Rattle.core_view.specs.View.{entry_at, no_entry}
use Rattle.core_view.proofs.Live.{rename_live}
use Rattle.data_flow.specs.Flow.{Node, Lane, Flow, Waiter, lane, with_lane, with_node, waits_in}
use Rattle.std.specs.List.{list_any}
use Rattle.core_context.specs.Queued.{queued_at, unheld, waiting_of, waiter_for}
use Rattle.core_context.specs.Track.{Track, renamed_one}
use Rattle.core_context.specs.Cores.{operands_of, node_of_entry, is_selected, waiters_of, IsCore}
use Rattle.core_context.specs.Steps.{renamed_flow}
use Rattle.core_context.proofs.Flights.{renamed-push, fetched_after, fetched-rest}
use Rattle.core_context.specs.Left.{IsLeft, KeepsSizes}
use Rattle.core_context.proofs.OtherContexts.{lane-with_same, lane-with_other, count-with_lane, with_lane_left}
use Rattle.core_context.proofs.FlowSizes.{sizes-with_lane}
use Rattle.core_context.proofs.Waiting.{growing_at, queued_place, same_place}
use Rattle.core_context.proofs.Queue.{core_waiting, behind_at, waiters-same, waiters-enter, waiting-push, waiting-push_other, none_selected}

-- ---- what is renamed

renamed_queued : (cycle : ℕ) (o : Operation) → is_queued (renamed_stage cycle o) ≡ not (stops_at_fetch o)
renamed_queued cycle (operation.Performs insn) = refl
renamed_queued cycle (operation.Stops why) = refl

renamed_renamed : (cycle : ℕ) (o : Operation) → is_renamed (renamed_stage cycle o) ≡ true
renamed_renamed cycle (operation.Performs insn) = refl
renamed_renamed cycle (operation.Stops why) = refl

-- it is as open as it was
renamed_open : (cycle : ℕ) (o : Operation) → (is_guessed o && not (is_done (renamed_stage cycle o))) ≡ (is_guessed o && true)
renamed_open cycle (operation.Performs insn) = refl
renamed_open cycle (operation.Stops why) = refl

renamed_result : (cycle : ℕ) (o : Operation) → result_of (renamed_stage cycle o) ≡ None
renamed_result cycle (operation.Performs insn) = refl
renamed_result cycle (operation.Stops why) = refl

none_if : (b : Bool) (o : Option ℕ) → o ≡ None → (if b then None else o) ≡ None
none_if true o h = refl
none_if false o h = h

-- as an instruction of the data flow it has no result
renamed_node : (e : Entry) (cycle : ℕ) → node_of_entry (with_stage e (renamed_stage cycle e.operation)) ≡ record { operands = operands_of e; result = None }
renamed_node e cycle = rw (none_if (destination_of e.operation == 0) (result_of (renamed_stage cycle e.operation)) (renamed_result cycle e.operation)) refl

-- ---- what renaming asks

-- the entry after the renamed ones is fetched
pub first_fetched : {start : State} {stamp reorder c : ℕ} {f : Flow} {names : List EntryId} {t : Track} → IsCore start stamp reorder f names c t → t.renamed < length t.context.flight → (entry_at t.context t.renamed).stage ≡ Fetched
first_fetched {t = t} core some = fetched_after t.renamed t.context.flight t.renamed core.are_fetched (omega arith) some

growing_before : (low : ℕ) (es : List Entry) (i j : ℕ) → IsGrowing low es → i < j → j < length es → (get_or es i no_entry).stamp < (get_or es j no_entry).stamp
growing_before low [] i j g lt within = absurd (omega arith)
growing_before low (e ∷ es) i zero g lt within = absurd (omega arith)
growing_before low (e ∷ es) zero (suc j) g lt within = let later = growing_at (e.stamp + 1) es j g.1 (omega arith) in omega (arith, later)
growing_before low (e ∷ es) (suc i) (suc j) g lt within = growing_before (e.stamp + 1) es i j g.1 (omega arith) (omega arith)

-- all instructions in the data flow are older than it
pub nodes_older : {start : State} {stamp reorder c : ℕ} {f : Flow} {names : List EntryId} {t : Track} → IsCore start stamp reorder f names c t → t.renamed < length t.context.flight
    → All (λ n. n.operands.stamp < (entry_at t.context t.renamed).stamp) (lane f c).nodes
nodes_older {t = t} core some =
    let younger = (entry_at t.context t.renamed).stamp in
    let es = take t.renamed t.context.flight in
    let entries : All (λ (e : Entry). e.stamp < younger) es = All-from_get_or (λ (e : Entry). e.stamp < younger) es no_entry (λ i lt.
    let below : i < t.renamed = omega (arith, lt, length-take-le t.renamed t.context.flight core.within) in
    subst (λ (e : Entry). e.stamp < younger) (sym (get_or-take t.renamed t.context.flight i no_entry below)) (growing_before 0 t.context.flight i t.renamed core.live.flight.growing below some)) in
    subst (All (λ (n : Node). n.operands.stamp < younger)) (sym core.nodes) (All-map (λ (n : Node). n.operands.stamp < younger) node_of_entry es entries)

-- a stamp whose entry isn't queued neither waits nor was selected
pub not_queued : {start : State} {stamp reorder c : ℕ} {f : Flow} {names : List EntryId} {t : Track} → IsCore start stamp reorder f names c t → (i : ℕ) → i < length t.context.flight → is_queued (entry_at t.context i).stage ≡ false
    → (waits_in f c (entry_at t.context i).stamp ≡ false) × (is_selected names c (entry_at t.context i).stamp ≡ false)
not_queued {c = c} {f = f} {names = names} {t = t} core i lt stage =
    or_parts (waits_in f c (entry_at t.context i).stamp) (is_selected names c (entry_at t.context i).stamp) (core_waiting core (entry_at t.context i).stamp ∙ none (queued_at (entry_at t.context i).stamp t.context.flight) refl)
  where
    none : (b : Bool) → queued_at (entry_at t.context i).stamp t.context.flight ≡ b → b ≡ false
    none true is =
        let p = queued_place (entry_at t.context i).stamp t.context.flight is in
        let q = p.1 in
        let same : p.0 ≡ i = same_place 0 t.context.flight p.0 i core.live.flight.growing q.within lt q.stamp in
        let queued : is_queued (entry_at t.context i).stage ≡ true = subst (λ n. is_queued (entry_at t.context n).stage ≡ true) same (ap is_queued q.stage) in
        absurd (let bad : false ≡ true = sym stage ∙ queued in cc)
    none false is = refl

-- so the entry doesn't wait yet
pub first_idle : {start : State} {stamp reorder c : ℕ} {f : Flow} {names : List EntryId} {t : Track} → IsCore start stamp reorder f names c t → t.renamed < length t.context.flight → waits_in f c (entry_at t.context t.renamed).stamp ≡ false
first_idle {t = t} core some = (not_queued core t.renamed some (ap is_queued (first_fetched core some))).0

-- ---- the core once it is renamed

-- over a data flow that has it, and in which it waits where it is queued
renamed_over : {start : State} {stamp reorder c : ℕ} {f : Flow} {t : Track} → IsCore start stamp reorder f [] c t → (cycle : ℕ) (g : Flow) → t.renamed < length t.context.flight → t.renamed < reorder
    → lane g c ≡ with_node (lane f c) (operands_of (entry_at t.context t.renamed))
    → waiting_of g c ≡ waiters_of [] c (set t.context.flight t.renamed (with_stage (entry_at t.context t.renamed) (renamed_stage cycle (entry_at t.context t.renamed).operation)))
    → IsCore start stamp reorder g [] c (renamed_one cycle t)
renamed_over {start = start} {stamp = stamp} {c = c} {f = f} {t = t} core cycle g some free here waiting =
    let es = t.context.flight in
    let e = entry_at t.context t.renamed in
    let n = with_stage e (renamed_stage cycle e.operation) in
    let front : take (t.renamed + 1) (set es t.renamed n) ≡ take t.renamed es ++ n ∷ [] = take_more_set es t.renamed n some in
    let rest : drop (t.renamed + 1) (set es t.renamed n) ≡ drop (t.renamed + 1) es = drop-set-lt (t.renamed + 1) es t.renamed n (omega arith) in
    record {
      live = rename_live start stamp cycle t.context t.renamed some (first_fetched core some) core.live;
      registers = ap (λ (l : Lane). l.registers) here ∙ core.registers;
      nodes = ap (λ (l : Lane). l.nodes) here ∙ ap (λ ns. ns ++ record { operands = operands_of e; result = None } ∷ []) core.nodes
          ∙ ap (λ m. map node_of_entry (take t.renamed es) ++ m ∷ []) (sym (renamed_node e cycle)) ∙ sym (ap (map node_of_entry) front ∙ map_push node_of_entry (take t.renamed es) n);
      room = ap (λ (l : Lane). l.room) here ∙ core.room;
      within = omega (arith, length-set es t.renamed n);
      fits = omega arith;
      front = omega (arith, core.front, length-set es t.renamed n);
      capacity = core.capacity;
      are_renamed = rw front (renamed-push (take t.renamed es) n core.are_renamed (renamed_renamed cycle e.operation));
      are_fetched = rw rest (fetched-rest e (drop (t.renamed + 1) es) (drop t.renamed es) (drop_more es t.renamed no_entry some) core.are_fetched);
      waiting = waiting;
      selected = none_selected c (set es t.renamed n);
    }

pub rename_core : {start : State} {stamp reorder c : ℕ} {f : Flow} {t : Track} → IsCore start stamp reorder f [] c t → (cycle : ℕ) → c < length f.lanes
    → t.renamed < length t.context.flight → t.renamed < reorder
    → IsCore start stamp reorder (renamed_flow f c (entry_at t.context t.renamed) (list_any is_open_guess (take t.renamed t.context.flight))) [] c (renamed_one cycle t)
rename_core {start = start} {stamp = stamp} {reorder = reorder} {c = c} {f = f} {t = t} core cycle within some free = by_stop (stops_at_fetch e.operation) refl
  where
    e : Entry
    e = entry_at t.context t.renamed

    n : Entry
    n = with_stage e (renamed_stage cycle e.operation)

    g : Flow
    g = with_lane f c (with_node (lane f c) (operands_of e))

    w : Waiter
    w = record { stamp = e.stamp; context = c; guessed = is_guessed e.operation; load = is_load e.operation; speculative = list_any is_open_guess (take t.renamed t.context.flight); held = false }

    -- it waits behind the guessed entries before it
    as_queued : w ≡ waiter_for c t.context.flight n
    as_queued = ap (λ b. let v : Waiter = record w { speculative = b } in v) (sym (behind_at 0 t.context.flight t.renamed core.live.flight.growing some))

    as_open : is_open_guess n ≡ is_open_guess e
    as_open = renamed_open cycle e.operation ∙ ap (λ s. is_guessed e.operation && not (is_done s)) (sym (first_fetched core some))

    here : lane g c ≡ with_node (lane f c) (operands_of e)
    here = lane-with_same f c (with_node (lane f c) (operands_of e)) within

    idle : is_queued e.stage ≡ false
    idle = ap is_queued (first_fetched core some)

    by_stop : (b : Bool) → stops_at_fetch e.operation ≡ b → IsCore start stamp reorder (if b then g else record g { waiters = f.waiters ++ w ∷ [] }) [] c (renamed_one cycle t)
    by_stop true is =
        let done : is_queued n.stage ≡ is_queued e.stage = renamed_queued cycle e.operation ∙ ap not is ∙ sym idle in
        renamed_over core cycle g some free here (core.waiting ∙ sym (waiters-same [] c t.context.flight t.renamed n some refl as_open (done ∙ idle) idle))
    by_stop false is =
        let queued : is_queued n.stage ≡ true = renamed_queued cycle e.operation ∙ ap not is in
        renamed_over core cycle (record g { waiters = f.waiters ++ w ∷ [] }) some free here
        (waiting-push f w c refl ∙ ap (λ ws. ws ++ unheld w ∷ []) core.waiting ∙ ap (λ (v : Waiter). waiters_of [] c t.context.flight ++ v ∷ []) as_queued ∙ sym (waiters-enter [] c t.context.flight t.renamed n some refl as_open core.are_fetched (ap (λ b. b && true) queued)))

-- ---- the other contexts

-- renaming in a context leaves the others
pub renamed_flow_left : (f : Flow) (c d : ℕ) (e : Entry) (speculative : Bool) → d ≢ c → IsLeft f (renamed_flow f c e speculative) d
renamed_flow_left f c d e speculative ne = by_stop (stops_at_fetch e.operation)
  where
    g : Flow
    g = with_lane f c (with_node (lane f c) (operands_of e))

    w : Waiter
    w = record { stamp = e.stamp; context = c; guessed = is_guessed e.operation; load = is_load e.operation; speculative = speculative; held = false }

    by_stop : (b : Bool) → IsLeft f (if b then g else record g { waiters = f.waiters ++ w ∷ [] }) d
    by_stop true = with_lane_left f c d (with_node (lane f c) (operands_of e)) ne
    by_stop false = record { lane = lane-with_other f c d (with_node (lane f c) (operands_of e)) ne; waits = waiting-push_other f w d ne }

-- and all sizes are what they were
pub sizes-renamed_flow : (f : Flow) (c : ℕ) (e : Entry) (speculative : Bool) → c < 8 → KeepsSizes f (renamed_flow f c e speculative)
sizes-renamed_flow f c e speculative lt = by_stop (stops_at_fetch e.operation)
  where
    g : Flow
    g = with_lane f c (with_node (lane f c) (operands_of e))

    w : Waiter
    w = record { stamp = e.stamp; context = c; guessed = is_guessed e.operation; load = is_load e.operation; speculative = speculative; held = false }

    by_stop : (b : Bool) → KeepsSizes f (if b then g else record g { waiters = f.waiters ++ w ∷ [] })
    by_stop true = sizes-with_lane f c (with_node (lane f c) (operands_of e))
    by_stop false = record { lanes = count-with_lane f c (with_node (lane f c) (operands_of e)); extra = refl; places = refl; contexts = λ all. All-push (λ w. w.context < 8) f.waiters w all lt; let_go = λ all. All-push (λ w. w.held ≡ false) f.waiters w all refl }

-- what needs no register has no destination
pub needs_none : (o : Operation) → 0 < destination_of o → not (destination_of o == 0) ≡ false → ⊥
needs_none o some none = by_test (destination_of o == 0) (eqb-true (destination_of o) 0) none
  where
    by_test : (b : Bool) → (b ≡ true → destination_of o ≡ 0) → not b ≡ false → ⊥
    by_test true is none = omega (arith, some, is refl)
    by_test false is none = let bad : true ≡ false = none in absurd cc
