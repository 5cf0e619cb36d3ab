-- The oldest entry of a context retires, or stops it.
use Rattle.std.proofs.Common.{◌≡◌, ℕ, zero, suc, ◌+◌, ◌-◌, ◌<◌, Bool, true, false, ◌&&◌, List, [], ◌∷◌, length, get_or, take, drop, map, Some, None, refl, sym, ap, subst, ◌∙◌, arith}
use Rattle.std.specs.Prelude.{◌==◌, nat_lt, if◌then◌else◌, filter, unwrap_or, IsSome, slice_set}
use Rattle.std.proofs.lemmas.Bool.{le-ltb, ne_eqb, and_right, or_from}
use Rattle.std.proofs.lemmas.List.{length-map, length-take-le, length-drop}
use Rattle.hart_step.specs.declared.stop.Stop.{Stop}
use Rattle.hart_step.specs.State.{State}
use Rattle.core_view.specs.declared.outcome.Step.{Step}
use Rattle.core_view.specs.declared.outcome.Outcome.{Outcome}
use Rattle.core_view.specs.declared.outcome.Outcome.TheVariants.{Goes, Stops}
use Rattle.core_view.specs.declared.entry.Execution.{Execution}
use Rattle.core_view.specs.declared.entry.Stage.{Stage}
use Rattle.core_view.specs.declared.entry.Stage.TheVariants.{Fetched, Queued, Issued, Done}
use Rattle.core_view.specs.declared.entry.Entry.{Entry}
use Rattle.core_view.specs.declared.operation.Operation.{Operation}
use Rattle.core_view.specs.declared.operation.Operation.TheVariants as operation
use Rattle.core_view.specs.Operations.{destination_of, is_store, stops_at_fetch}
use Rattle.core_view.specs.Outcomes.{Image, image_of, bytes_written, outcome_in, IsSized}
use Rattle.core_view.specs.Flight.{seen_of, result_of, result_in, bytes_in, is_done, IsGrowing, is_queued, GoesOnAt, IsSettled}
use Rattle.core_view.specs.Queues.{is_renamed, AllRenamed}
use Rattle.core_view.specs.View.{IsLive, StatusHolds, entry_at, seen_at, no_entry}
use Rattle.core_view.specs.Events.{retire_event}
use Rattle.core_view.proofs.Sound.{sound_at}
use Rattle.core_view.proofs.Steps.{IsOutcomeSized}
use Rattle.core_view.proofs.Accesses.{outcome_bytes}
use Rattle.core_view.proofs.Live.{retire_live, stop_live, flight_running, done_sized}
use Rattle.core_view.proofs.Live.{done_outcome as done_outcome_of}
use Rattle.data_flow.specs.Flow.{Node, Lane, Flow, no_node, node_at, lane, with_lane, without_oldest, cut_from, cut_flow, waits_in}
use Rattle.core_context.specs.Track.{Track, is_last, retired, stopped}
use Rattle.core_context.specs.Queued.{queued_at, waiting_of}
use Rattle.core_context.specs.Steps.{retired_flow}
use Rattle.entry_stages.specs.Heads.{done_outcome, first_done}
use Rattle.core_context.specs.Cores.{node_of_entry, AllFetched, IsCore}
use Rattle.core_context.proofs.Waiting.{or_none, queued_past}
use Rattle.core_context.proofs.Queue.{waiting-cut, none_before, none_selected, waiters-drop, core_waiting}
use Rattle.core_context.proofs.OtherContexts.{lane-with_same, lane-cut_same, count-with_lane}
use Rattle.core_context.proofs.CoreOfFlight.{IsFlightCore, core_from}
use Rattle.core_context.proofs.Stages.{renamed_place, renamed_drop, nodes_drop}

-- no instruction is below stamp 0
pub none_left : (ns : List Node) → filter (λ (n : Node). nat_lt n.operands.stamp 0) ns ≡ []
none_left [] = refl
none_left (n ∷ ns) = let past : nat_lt n.operands.stamp 0 ≡ false = le-ltb n.operands.stamp 0 (omega arith) in rw past (none_left ns)

-- ---- the part of a context without entries

-- all instructions of a context are forgotten
pub cut_core : (reorder : ℕ) (f : Flow) (c : ℕ) → c < length f.lanes → (lane f c).room ≡ reorder → IsFlightCore reorder (cut_flow f c 0) [] c 0 []
cut_core reorder f c lt room =
    let here : lane (cut_flow f c 0) c ≡ cut_from (lane f c) 0 = lane-cut_same f c 0 lt in
    record {
      nodes = ap (λ (l : Lane). l.nodes) here ∙ none_left (lane f c).nodes;
      room = ap (λ (l : Lane). l.room) here ∙ room;
      within = omega arith;
      fits = omega arith;
      front = omega arith;
      are_renamed = tt;
      are_fetched = tt;
      waiting = waiting-cut f c 0 ∙ none_before (waiting_of f c);
      selected = none_selected c [];
    }

-- ---- the oldest entry of a flight is done

-- the oldest entry is done with an outcome
pub record IsFirstDone (es : List Entry) (o : Outcome) : Type 0 where
  pub execution : Execution
  pub some : 0 < length es
  pub stage : (get_or es 0 no_entry).stage ≡ Done execution
  pub outcome : execution.outcome ≡ o

pub is_first_done : (es : List Entry) (o : Outcome) → first_done es ≡ Some o → IsFirstDone es o
is_first_done [] o h = absurd cc
is_first_done (e ∷ es) o h = by_stage e.stage refl h
  where
    by_stage : (s : Stage) → e.stage ≡ s → done_outcome s ≡ Some o → IsFirstDone (e ∷ es) o
    by_stage Fetched is h = absurd cc
    by_stage Queued is h = absurd cc
    by_stage (Issued x) is h = absurd cc
    by_stage (Done x) is h = record { execution = x; some = omega arith; stage = is; outcome = cc }

module _ (start : State) (stamp reorder : ℕ) (f : Flow) (c : ℕ) (t : Track) (x : Execution) (step : Step) where
  -- ---- what the calls ask

  -- the oldest entry is renamed
  pub oldest_renamed : IsCore start stamp reorder f [] c t → 0 < length t.context.flight → (entry_at t.context 0).stage ≡ Done x → 0 < t.renamed
  oldest_renamed core some stage = renamed_place t.renamed t.context.flight 0 core.are_fetched some (ap is_renamed stage)

  -- so the data flow has it
  pub oldest_known : IsCore start stamp reorder f [] c t → 0 < length t.context.flight → (entry_at t.context 0).stage ≡ Done x → 0 < length (lane f c).nodes
  oldest_known core some stage =
      let first = oldest_renamed core some stage in
      omega (arith, first, ap length core.nodes, length-map (take t.renamed t.context.flight) node_of_entry, length-take-le t.renamed t.context.flight core.within)

  pub oldest_node : IsCore start stamp reorder f [] c t → 0 < length t.context.flight → (entry_at t.context 0).stage ≡ Done x → node_at (lane f c) 0 ≡ node_of_entry (entry_at t.context 0)
  oldest_node core some stage = ap (λ (ns : List Node). get_or ns 0 no_node) core.nodes ∙ by_list t.renamed t.context.flight (oldest_renamed core some stage) some
    where
      by_list : (r : ℕ) (es : List Entry) → 0 < r → 0 < length es → get_or (map node_of_entry (take r es)) 0 no_node ≡ node_of_entry (get_or es 0 no_entry)
      by_list zero es first some = absurd (omega arith)
      by_list (suc r) [] first some = absurd (omega arith)
      by_list (suc r) (e ∷ es) first some = refl

  -- its result is there, where it has a destination
  pub oldest_result : IsCore start stamp reorder f [] c t → 0 < length t.context.flight → (entry_at t.context 0).stage ≡ Done x → x.outcome ≡ Goes step
      → (node_at (lane f c) 0).result ≡ (if destination_of (entry_at t.context 0).operation == 0 then None else Some step.result)
  oldest_result core some stage goes =
      let e = entry_at t.context 0 in
      let result : result_of e.stage ≡ Some step.result = ap result_of stage ∙ ap result_in goes in
      ap (λ (n : Node). n.result) (oldest_node core some stage) ∙ ap (λ r. if destination_of e.operation == 0 then None else r) result

  pub oldest_done : IsCore start stamp reorder f [] c t → 0 < length t.context.flight → (entry_at t.context 0).stage ≡ Done x → x.outcome ≡ Goes step
      → 0 < (node_at (lane f c) 0).operands.destination → IsSome (node_at (lane f c) 0).result
  oldest_done core some stage goes has =
      let d = destination_of (entry_at t.context 0).operation in
      let named : 0 < d = subst (λ (n : Node). 0 < n.operands.destination) (oldest_node core some stage) has in
      let test : (d == 0) ≡ false = ne_eqb d 0 (λ none. omega (arith, named, none)) in
      let is : (node_at (lane f c) 0).result ≡ Some step.result = oldest_result core some stage goes ∙ ap (λ b. if b then None else Some step.result) test in
      rw is refl

  -- it does not wait for issue
  pub oldest_idle : IsCore start stamp reorder f [] c t → 0 < length t.context.flight → (entry_at t.context 0).stage ≡ Done x → waits_in f c (node_at (lane f c) 0).operands.stamp ≡ false
  oldest_idle core some stage =
      ap (λ (n : Node). waits_in f c n.operands.stamp) (oldest_node core some stage) ∙ sym (or_none (waits_in f c (entry_at t.context 0).stamp)) ∙ core_waiting core (entry_at t.context 0).stamp
      ∙ by_list t.context.flight core.live.flight.growing (ap is_queued stage)
    where
      by_list : (es : List Entry) → IsGrowing 0 es → is_queued (get_or es 0 no_entry).stage ≡ false → queued_at (get_or es 0 no_entry).stamp es ≡ false
      by_list [] g idle = refl
      by_list (e ∷ es) g idle = or_from ((e.stamp == e.stamp) && is_queued e.stage) (queued_at e.stamp es) (and_right (e.stamp == e.stamp) (is_queued e.stage) idle) (queued_past e.stamp (e.stamp + 1) es g.1 (omega arith))

  -- the context is below its target
  pub oldest_below : IsCore start stamp reorder f [] c t → 0 < length t.context.flight → t.context.count < t.context.target
  oldest_below core some = subst (λ s. StatusHolds s t.context) (flight_running start stamp t.context some core.live) core.live.status

  -- the access of its step has the width of a load or a store
  pub oldest_sized : IsCore start stamp reorder f [] c t → 0 < length t.context.flight → (entry_at t.context 0).stage ≡ Done x → x.outcome ≡ Goes step → IsSized step.access
  oldest_sized core some stage goes = subst IsOutcomeSized goes (done_sized start stamp t.context 0 x some stage core.live)

  -- no bytes are written where it is no store
  pub oldest_unwritten : IsCore start stamp reorder f [] c t → 0 < length t.context.flight → (entry_at t.context 0).stage ≡ Done x → x.outcome ≡ Goes step → is_store (entry_at t.context 0).operation ≡ false → bytes_written step.access ≡ None
  oldest_unwritten core some stage goes idle =
      let out = done_outcome_of start stamp t.context 0 x some stage core.live in
      let e = entry_at t.context 0 in
      subst (λ o. bytes_in o ≡ None) goes (ap bytes_in out.is ∙ outcome_bytes (image_of t.context.state) (seen_at t.context 0).bytes e.operation e.pc out.first out.second idle)

  -- fetch went on after it where its step goes
  pub oldest_followed : IsCore start stamp reorder f [] c t → 0 < length t.context.flight → (entry_at t.context 0).stage ≡ Done x → x.outcome ≡ Goes step → (entry_at t.context 0).followed ≡ step.next
  oldest_followed core some stage goes =
      let e = entry_at t.context 0 in
      let s = sound_at (image_of t.context.state) (seen_of t.context.state) t.context.state.pc t.context.flight 0 no_entry some core.live.flight.sound in
      subst (GoesOnAt e.followed) goes (subst (IsSettled e.followed) stage s.followed.settled)

  -- it doesn't stop at fetch
  pub oldest_goes : IsCore start stamp reorder f [] c t → 0 < length t.context.flight → (entry_at t.context 0).stage ≡ Done x → x.outcome ≡ Goes step → stops_at_fetch (entry_at t.context 0).operation ≡ false
  oldest_goes core some stage goes =
      let out = done_outcome_of start stamp t.context 0 x some stage core.live in
      let e = entry_at t.context 0 in
      by_operation e.operation (image_of t.context.state) (seen_at t.context 0).bytes e.pc out.first out.second (sym goes ∙ out.is)
    where
      by_operation : (o : Operation) (image : Image) (bytes : ℕ → ℕ) (pc a b : ℕ) → Goes step ≡ outcome_in image bytes o pc a b → stops_at_fetch o ≡ false
      by_operation (operation.Performs insn) image bytes pc a b is = refl
      by_operation (operation.Stops why) image bytes pc a b is = absurd cc

  -- ---- it retires

  -- the committed registers are those of the state that the step leads to
  retired_registers : IsCore start stamp reorder f [] c t → 0 < length t.context.flight → (entry_at t.context 0).stage ≡ Done x → x.outcome ≡ Goes step
      → (without_oldest (lane f c)).registers ≡ (retire_event t.context step).state.registers
  retired_registers core some stage goes =
      let d = destination_of (entry_at t.context 0).operation in
      let named : (node_at (lane f c) 0).operands.destination ≡ d = ap (λ (n : Node). n.operands.destination) (oldest_node core some stage) in
      rw (core.registers, named, oldest_result core some stage goes) (by_test (d == 0) refl)
    where
      by_test : (b : Bool) → (destination_of (entry_at t.context 0).operation == 0) ≡ b
          → (if b then t.context.state.registers else slice_set t.context.state.registers (destination_of (entry_at t.context 0).operation) (unwrap_or (if b then None else Some step.result) 0))
          ≡ (if b then t.context.state.registers else slice_set t.context.state.registers (destination_of (entry_at t.context 0).operation) step.result)
      by_test true is = refl
      by_test false is = refl

  -- the rest of the flight
  retired_rest : c < length f.lanes → IsCore start stamp reorder f [] c t → 0 < length t.context.flight → (entry_at t.context 0).stage ≡ Done x
      → IsFlightCore reorder (with_lane f c (without_oldest (lane f c))) [] c (t.renamed - 1) (drop 1 t.context.flight)
  retired_rest lt core some stage =
      let here : lane (with_lane f c (without_oldest (lane f c))) c ≡ without_oldest (lane f c) = lane-with_same f c (without_oldest (lane f c)) lt in
      let first : 0 < t.renamed = oldest_renamed core some stage in
      let one : t.renamed ≡ t.renamed - 1 + 1 = omega (arith, first) in
      let len : length (drop 1 t.context.flight) ≡ length t.context.flight - 1 = length-drop 1 t.context.flight in
      record {
        nodes = ap (λ (l : Lane). l.nodes) here ∙ ap (drop 1) core.nodes ∙ ap (λ n. drop 1 (map node_of_entry (take n t.context.flight))) one ∙ nodes_drop (t.renamed - 1) t.context.flight;
        room = ap (λ (l : Lane). l.room) here ∙ core.room;
        within = omega (arith, len, first, core.within);
        fits = omega (arith, core.fits);
        front = omega (arith, len, first, core.front, core.within);
        are_renamed = renamed_drop (t.renamed - 1) t.context.flight (subst (λ n. AllRenamed (take n t.context.flight)) one core.are_renamed);
        are_fetched = rest_fetched (t.renamed - 1) t.context.flight (subst (λ n. AllFetched (drop n t.context.flight)) one core.are_fetched);
        waiting = core.waiting ∙ sym (waiters-drop [] c t.context.flight (ap is_done stage));
        selected = none_selected c (drop 1 t.context.flight);
      }
    where
      rest_fetched : (n : ℕ) (es : List Entry) → AllFetched (drop (n + 1) es) → AllFetched (drop n (drop 1 es))
      rest_fetched zero [] a = tt
      rest_fetched (suc n) [] a = tt
      rest_fetched n (e ∷ es) a = let one : n + 1 ≡ suc n = omega arith in subst (λ m. AllFetched (drop m (e ∷ es))) one a

  -- the oldest entry, which is done with a step, retires
  pub retire_core : c < length f.lanes → IsCore start stamp reorder f [] c t → 0 < length t.context.flight → (entry_at t.context 0).stage ≡ Done x → x.outcome ≡ Goes step
      → IsCore start stamp reorder (retired_flow f c (is_last t.context)) [] c (retired t step)
  retire_core lt core some stage goes =
      by_last (retire_live start stamp t.context x step some stage goes core.live) (retired_registers core some stage goes) (retired_rest lt core some stage) (is_last t.context) refl
    where
      g : Flow
      g = with_lane f c (without_oldest (lane f c))

      here : lane g c ≡ without_oldest (lane f c)
      here = lane-with_same f c (without_oldest (lane f c)) lt

      by_last : IsLive start stamp (retire_event t.context step) → (without_oldest (lane f c)).registers ≡ (retire_event t.context step).state.registers → IsFlightCore reorder g [] c (t.renamed - 1) (drop 1 t.context.flight)
          → (last : Bool) → is_last t.context ≡ last → IsCore start stamp reorder (retired_flow f c last) [] c (retired t step)
      by_last live registers rest true is =
          let there : c < length g.lanes = omega (arith, lt, count-with_lane f c (without_oldest (lane f c))) in
          core_from start stamp reorder (cut_flow g c 0) [] c (retired t step) 0 [] (ap (λ b. if b then 0 else t.renamed - 1) is) (ap (λ b. if b then [] else drop 1 t.context.flight) is) live
          (ap (λ (l : Lane). l.registers) (lane-cut_same g c 0 there ∙ ap (λ (l : Lane). cut_from l 0) here) ∙ registers) core.capacity (cut_core reorder g c there (ap (λ (l : Lane). l.room) here ∙ core.room))
      by_last live registers rest false is =
          core_from start stamp reorder g [] c (retired t step) (t.renamed - 1) (drop 1 t.context.flight) (ap (λ b. if b then 0 else t.renamed - 1) is) (ap (λ b. if b then [] else drop 1 t.context.flight) is) live
          (ap (λ (l : Lane). l.registers) here ∙ registers) core.capacity rest

-- the oldest entry, which is done with a stop, stops the context
pub stop_core : (start : State) (stamp reorder : ℕ) (f : Flow) (c : ℕ) (t : Track) (x : Execution) (why : Stop) → c < length f.lanes → IsCore start stamp reorder f [] c t → 0 < length t.context.flight → (entry_at t.context 0).stage ≡ Done x
    → x.outcome ≡ Stops why → IsCore start stamp reorder (cut_flow f c 0) [] c (stopped t why)
stop_core start stamp reorder f c t x why lt core some stage stops =
    core_from start stamp reorder (cut_flow f c 0) [] c (stopped t why) 0 [] refl refl (stop_live start stamp t.context x why some stage stops core.live)
    (ap (λ (l : Lane). l.registers) (lane-cut_same f c 0 lt) ∙ core.registers) core.capacity (cut_core reorder f c lt core.room)
