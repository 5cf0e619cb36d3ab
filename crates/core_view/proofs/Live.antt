-- Each event keeps a context live.
use Rattle.std.proofs.Common.{◌≡◌, ℕ, ◌+◌, ◌%◌, ◌<◌, ◌≤◌, Bool, true, false, List, [], ◌∷◌, ◌++◌, length, get_or, drop, Some, None, Err, refl, sym, ap, subst, ◌∙◌, arith}
use Rattle.std.specs.Prelude.{slice_index, ◌==◌, if◌then◌else◌}
use Rattle.std.proofs.lemmas.Bool.Decides.{nat_tests}
use Rattle.paged_memory.specs.Cells.{rights_at}
use Rattle.hart_step.specs.declared.stop.Stop.{Stop}
use Rattle.hart_step.specs.State.{State}
use Rattle.hart_step.specs.Next.{next, after}
use Rattle.hart_step.proofs.Trajectory.{one_more}
use Rattle.core_view.specs.declared.operation.Operation.{Operation}
use Rattle.core_view.specs.declared.operation.Operation.TheVariants as operation
use Rattle.core_view.specs.declared.outcome.Step.{Step}
use Rattle.core_view.specs.declared.outcome.Outcome.TheVariants.{Goes, Stops}
use Rattle.core_view.specs.declared.entry.Execution.{Execution}
use Rattle.core_view.specs.declared.entry.Stage.{Stage}
use Rattle.core_view.specs.declared.entry.Stage.TheVariants.{Fetched, Queued, Issued, Done}
use Rattle.core_view.specs.declared.entry.Entry.{Entry}
use Rattle.core_view.specs.declared.status.Status.{Status}
use Rattle.core_view.specs.declared.status.Status.TheVariants.{Running, Parked, Stopped}
use Rattle.core_view.specs.Operations.{is_guessed, stops_at_fetch, operation_at}
use Rattle.core_view.specs.Outcomes.{Image, image_of, moved}
use Rattle.core_view.specs.Flight.{Seen, seen_of, is_open, result_of, bytes_done, pc_past, IsOutcome, HasOutcome, IsFollowed, IsSound}
use Rattle.core_view.specs.View.{Context, IsLive, IsTextApart, StatusHolds, entry_at, seen_at, no_entry, first_context}
use Rattle.core_view.specs.Events.{retire_event, stop_event, with_flight, with_stage, complete_in, complete_event, issue_event, renamed_stage, rename_event, MayFollow, fetched_entry, fetch_event, completed_at}
use Rattle.core_view.proofs.Steps.{unguessed_aligned, IsOutcomeSized, outcome_sized}
use Rattle.core_view.proofs.Sound.{sound_at, sound_set, sound_push, sound_complete, sound_completed, end_aligned}
use Rattle.core_view.proofs.Retired.{sound_retire, sound_stop, Retires, image-after}
use Rattle.core_view.proofs.Stamps.{IsStamped, stamped_from, stamped_growing, stamped_below, stamped_wider, stamped-drop, stamped-complete, stamped-completed, stamped-set, stamped-push}

module _ (start : State) where
  -- ---- the first view, and later stamps

  pub first_live : (stamp count target : ℕ) (s : State) → count ≤ target → after count start ≡ Some s → s.pc % 4 ≡ 0 → slice_index s.registers 0 ≡ 0 → IsTextApart (rights_at start.memory)
      → IsLive start stamp (first_context count target s)
  first_live stamp count target s le reached aligned zero_register apart = record {
    reached = reached;
    flight = record { sound = tt; growing = tt; below = tt };
    status = by_target (count == target) refl;
    aligned = aligned;
    zero_register = zero_register;
    apart = subst (λ (m : Image). IsTextApart m.rights) (sym (image-after count start s apart reached)) apart;
  }
    where
      by_target : (b : Bool) → (count == target) ≡ b → StatusHolds (if b then Parked else Running) (first_context count target s)
      by_target true is = (grind (arith, nat_tests, is), refl)
      by_target false is = grind (arith, nat_tests, is)

  -- a stamp more is taken by another context
  pub later_live : (stamp later : ℕ) (c : Context) → stamp ≤ later → IsLive start stamp c → IsLive start later c
  later_live stamp later c le live = record {
    reached = live.reached;
    flight = record {
      sound = live.flight.sound;
      growing = live.flight.growing;
      below = stamped_below 0 later c.flight (stamped_wider 0 0 stamp later c.flight (omega arith) le (stamped_from 0 stamp c.flight live.flight.growing live.flight.below));
    };
    status = live.status;
    aligned = live.aligned;
    zero_register = live.zero_register;
    apart = live.apart;
  }

  -- a context with entries runs
  pub flight_running : (stamp : ℕ) (c : Context) → 0 < length c.flight → IsLive start stamp c → c.status ≡ Running
  flight_running stamp c some live = by_status c.status live.status
    where
      by_status : (t : Status) → StatusHolds t c → t ≡ Running
      by_status Running h = refl
      by_status Parked h = absurd (omega (arith, some, ap length h.1))
      by_status (Stopped why) h = absurd (omega (arith, some, ap length h.1))

  -- ---- retire

  pub retire_live : (stamp : ℕ) (c : Context) (x : Execution) (step : Step) → 0 < length c.flight → (entry_at c 0).stage ≡ Done x → x.outcome ≡ Goes step → IsLive start stamp c → IsLive start stamp (retire_event c step)
  retire_live stamp c x step some stage goes live =
      let r = split c.flight some stage live.flight.sound in
      let below : c.count < c.target = subst (λ t. StatusHolds t c) (flight_running stamp c some live) live.status in
      let reached : after (c.count + 1) start ≡ Some (moved c.state (entry_at c 0).operation step) = one_more c.count start c.state (moved c.state (entry_at c 0).operation step) live.reached r.leads in
      let sound : IsSound (image_of (moved c.state (entry_at c 0).operation step)) (seen_of (moved c.state (entry_at c 0).operation step)) step.next (drop 1 c.flight) =
      subst (λ m. IsSound m (seen_of (moved c.state (entry_at c 0).operation step)) step.next (drop 1 c.flight)) (sym r.image) r.sound in
      let stamps : IsStamped 0 stamp (drop 1 c.flight) = stamped-drop 0 stamp c.flight (stamped_from 0 stamp c.flight live.flight.growing live.flight.below) in
      let apart : IsTextApart (image_of (moved c.state (entry_at c 0).operation step)).rights = subst (λ (m : Image). IsTextApart m.rights) (sym r.image) live.apart in
      by_target reached sound stamps r.aligned r.zero_register apart below (c.count + 1 == c.target) refl
    where
      split : (es : List Entry) → 0 < length es → (get_or es 0 no_entry).stage ≡ Done x → IsSound (image_of c.state) (seen_of c.state) c.state.pc es → Retires c.state (get_or es 0 no_entry) step (drop 1 es)
      split [] some stage s = absurd (omega arith)
      split (e ∷ es) some stage s = sound_retire c.state e x step es live.zero_register live.apart stage goes s

      by_target : after (c.count + 1) start ≡ Some (moved c.state (entry_at c 0).operation step)
          → IsSound (image_of (moved c.state (entry_at c 0).operation step)) (seen_of (moved c.state (entry_at c 0).operation step)) step.next (drop 1 c.flight)
          → IsStamped 0 stamp (drop 1 c.flight) → step.next % 4 ≡ 0 → slice_index (moved c.state (entry_at c 0).operation step).registers 0 ≡ 0
          → IsTextApart (image_of (moved c.state (entry_at c 0).operation step)).rights → c.count < c.target → (b : Bool) → (c.count + 1 == c.target) ≡ b
          → IsLive start stamp (record { status = if b then Parked else Running; count = c.count + 1; target = c.target; state = moved c.state (entry_at c 0).operation step; flight = if b then [] else drop 1 c.flight })
      by_target reached sound stamps aligned zero_register apart below true is = record {
        reached = reached;
        flight = record { sound = tt; growing = tt; below = tt };
        status = (grind (arith, nat_tests, is), refl);
        aligned = aligned;
        zero_register = zero_register;
        apart = apart;
      }
      by_target reached sound stamps aligned zero_register apart below false is = record {
        reached = reached;
        flight = record { sound = sound; growing = stamped_growing 0 stamp (drop 1 c.flight) stamps; below = stamped_below 0 stamp (drop 1 c.flight) stamps };
        status = grind (arith, nat_tests, is);
        aligned = aligned;
        zero_register = zero_register;
        apart = apart;
      }

  pub stop_live : (stamp : ℕ) (c : Context) (x : Execution) (why : Stop) → 0 < length c.flight → (entry_at c 0).stage ≡ Done x → x.outcome ≡ Stops why → IsLive start stamp c → IsLive start stamp (stop_event c why)
  stop_live stamp c x why some stage stops live = record {
    reached = live.reached;
    flight = record { sound = tt; growing = tt; below = tt };
    status = (subst (λ t. StatusHolds t c) (flight_running stamp c some live) live.status, refl, split c.flight some stage live.flight.sound);
    aligned = live.aligned;
    zero_register = live.zero_register;
    apart = live.apart;
  }
    where
      split : (es : List Entry) → 0 < length es → (get_or es 0 no_entry).stage ≡ Done x → IsSound (image_of c.state) (seen_of c.state) c.state.pc es → next c.state ≡ Err why
      split [] some stage s = absurd (omega arith)
      split (e ∷ es) some stage s = sound_stop c.state e x why es live.zero_register stage stops s

  -- ---- another flight in a running context

  flight_live : (stamp later : ℕ) (c : Context) (es : List Entry) → c.status ≡ Running → IsLive start stamp c → IsSound (image_of c.state) (seen_of c.state) c.state.pc es → IsStamped 0 later es
      → IsLive start later (with_flight c es)
  flight_live stamp later c es running live s stamps = record {
    reached = live.reached;
    flight = record { sound = s; growing = stamped_growing 0 later es stamps; below = stamped_below 0 later es stamps };
    status = let below : c.count < c.target = subst (λ t. StatusHolds t c) running live.status in subst (λ t. StatusHolds t (with_flight c es)) (sym running) below;
    aligned = live.aligned;
    zero_register = live.zero_register;
    apart = live.apart;
  }

  stamps_of : (stamp : ℕ) (c : Context) → IsLive start stamp c → IsStamped 0 stamp c.flight
  stamps_of stamp c live = stamped_from 0 stamp c.flight live.flight.growing live.flight.below

  -- ---- complete: the squash of a wrong guess or of a conflict is in the event

  pub complete_live : (stamp : ℕ) (c : Context) (i : ℕ) (x : Execution) → i < length c.flight → (entry_at c i).stage ≡ Issued x → IsLive start stamp c → IsLive start stamp (complete_event c i x)
  complete_live stamp c i x lt stage live =
      flight_live stamp stamp c (complete_in c.flight i x) (flight_running stamp c (omega arith) live) live
      (sound_complete (image_of c.state) (seen_of c.state) c.state.pc c.flight i x no_entry live.aligned lt stage live.flight.sound)
      (stamped-complete 0 stamp c.flight i x (stamps_of stamp c live))

  pub completed_live : (stamp cycle : ℕ) (c : Context) → IsLive start stamp c → IsLive start stamp (with_flight c (completed_at cycle c.flight))
  completed_live stamp cycle c live = record {
    reached = live.reached;
    flight = record {
      sound = sound_completed (image_of c.state) (seen_of c.state) c.state.pc cycle c.flight live.aligned live.flight.sound;
      growing = stamped_growing 0 stamp (completed_at cycle c.flight) stamps;
      below = stamped_below 0 stamp (completed_at cycle c.flight) stamps;
    };
    status = by_status c.status live.status;
    aligned = live.aligned;
    zero_register = live.zero_register;
    apart = live.apart;
  }
    where
      stamps : IsStamped 0 stamp (completed_at cycle c.flight)
      stamps = stamped-completed 0 stamp cycle c.flight (stamps_of stamp c live)

      by_status : (t : Status) → StatusHolds t c → StatusHolds t (with_flight c (completed_at cycle c.flight))
      by_status Running h = h
      by_status Parked h = (h.0, ap (completed_at cycle) h.1)
      by_status (Stopped why) h = (h.0, ap (completed_at cycle) h.1, h.2)

  -- ---- issue, rename, fetch

  -- an entry at a place comes to another stage, in which it shows no result and no bytes that it didn't show before
  stage_live : (stamp : ℕ) (c : Context) (i : ℕ) (stage : Stage) → i < length c.flight → result_of (entry_at c i).stage ≡ None → bytes_done (entry_at c i).stage ≡ bytes_done stage
      → HasOutcome (image_of c.state) (seen_at c i) (entry_at c i).operation (entry_at c i).pc stage → IsFollowed (entry_at c i).operation (entry_at c i).pc stage (entry_at c i).followed
      → IsLive start stamp c → IsLive start stamp (with_flight c (Rattle.std.specs.Prelude.set c.flight i (with_stage (entry_at c i) stage)))
  stage_live stamp c i stage lt silent bytes has follows live =
      let e = entry_at c i in
      let s = sound_at (image_of c.state) (seen_of c.state) c.state.pc c.flight i no_entry lt live.flight.sound in
      flight_live stamp stamp c _ (flight_running stamp c (omega arith) live) live
      (sound_set (image_of c.state) (seen_of c.state) c.state.pc c.flight i no_entry (with_stage e stage) lt live.flight.sound
      (record { place = s.place; operation = s.operation; outcome = has; followed = follows }) refl refl
      (λ v h. absurd (let bad : None ≡ Some v = sym silent ∙ h in cc)) bytes)
      (stamped-set 0 stamp c.flight i no_entry (with_stage e stage) lt refl (stamps_of stamp c live))

  -- an entry issues with the outcome of its operation on what it sees
  pub issue_live : (stamp : ℕ) (c : Context) (i : ℕ) (x : Execution) → i < length c.flight → (entry_at c i).stage ≡ Queued
      → IsOutcome (image_of c.state) (seen_at c i) (entry_at c i).operation (entry_at c i).pc x.outcome → IsLive start stamp c → IsLive start stamp (issue_event c i x)
  issue_live stamp c i x lt stage out live =
      let e = entry_at c i in
      let s = sound_at (image_of c.state) (seen_of c.state) c.state.pc c.flight i no_entry lt live.flight.sound in
      let performs : stops_at_fetch e.operation ≡ false = subst (λ t. HasOutcome (image_of c.state) (seen_at c i) e.operation e.pc t) stage s.outcome in
      stage_live stamp c i (Issued x) lt (ap result_of stage) (ap bytes_done stage) (performs, out)
      (record { aligned = s.followed.aligned; unguessed = s.followed.unguessed; settled = tt }) live

  renamed_has : (image : Image) (seen : Seen) (o : Operation) (pc cycle : ℕ) → HasOutcome image seen o pc (renamed_stage cycle o)
  renamed_has image seen (operation.Performs insn) pc cycle = refl
  renamed_has image seen (operation.Stops why) pc cycle = record { first = 0; second = 0; first_ready = refl; second_ready = refl; is = refl }

  renamed_bytes : (o : Operation) (cycle : ℕ) → bytes_done (renamed_stage cycle o) ≡ None
  renamed_bytes (operation.Performs insn) cycle = refl
  renamed_bytes (operation.Stops why) cycle = refl

  renamed_follows : (o : Operation) (pc cycle followed : ℕ) (s : Stage) → IsFollowed o pc s followed → IsFollowed o pc (renamed_stage cycle o) followed
  renamed_follows (operation.Performs insn) pc cycle followed s h = record { aligned = h.aligned; unguessed = h.unguessed; settled = tt }
  renamed_follows (operation.Stops why) pc cycle followed s h = record { aligned = h.aligned; unguessed = h.unguessed; settled = tt }

  pub rename_live : (stamp cycle : ℕ) (c : Context) (i : ℕ) → i < length c.flight → (entry_at c i).stage ≡ Fetched → IsLive start stamp c → IsLive start stamp (rename_event cycle c i)
  rename_live stamp cycle c i lt stage live =
      let e = entry_at c i in
      let s = sound_at (image_of c.state) (seen_of c.state) c.state.pc c.flight i no_entry lt live.flight.sound in
      stage_live stamp c i (renamed_stage cycle e.operation) lt (ap result_of stage) (ap bytes_done stage ∙ sym (renamed_bytes e.operation cycle))
      (renamed_has (image_of c.state) (seen_at c i) e.operation e.pc cycle) (renamed_follows e.operation e.pc cycle e.followed e.stage s.followed) live

  fetched_follows : (c : Context) (pc followed : ℕ) → pc % 4 ≡ 0 → MayFollow (operation_at c.state.memory pc) pc followed → IsFollowed (operation_at c.state.memory pc) pc Fetched followed
  fetched_follows c pc followed aligned may = record { aligned = by_guess (is_guessed (operation_at c.state.memory pc)) refl; unguessed = may.unguessed; settled = tt }
    where
      by_guess : (b : Bool) → is_guessed (operation_at c.state.memory pc) ≡ b → followed % 4 ≡ 0
      by_guess true is = may.guessed is
      by_guess false is = ap (λ p. p % 4) (may.unguessed is) ∙ unguessed_aligned c.state.memory pc aligned

  pub fetch_live : (stamp cycle followed : ℕ) (c : Context) → c.status ≡ Running → is_open c.flight ≡ true → MayFollow (operation_at c.state.memory (pc_past c.state.pc c.flight)) (pc_past c.state.pc c.flight) followed
      → IsLive start stamp c → IsLive start (stamp + 1) (fetch_event stamp cycle followed c)
  fetch_live stamp cycle followed c running open_ may live =
      let pc = pc_past c.state.pc c.flight in
      let aligned : pc % 4 ≡ 0 = end_aligned (image_of c.state) (seen_of c.state) c.state.pc c.flight live.aligned live.flight.sound in
      let e : Entry = fetched_entry stamp cycle pc (operation_at c.state.memory pc) followed in
      flight_live stamp (stamp + 1) c (c.flight ++ e ∷ []) running live
      (sound_push (image_of c.state) (seen_of c.state) c.state.pc c.flight e open_ live.flight.sound
      (record { place = refl; operation = refl; outcome = tt; followed = fetched_follows c pc followed aligned may }))
      (stamped-push 0 stamp c.flight e (omega arith) refl (stamps_of stamp c live))

  -- ---- what callers ask of a live context

  -- the pc where its flight ends is a multiple of four
  pub end_of_flight_aligned : (stamp : ℕ) (c : Context) → IsLive start stamp c → pc_past c.state.pc c.flight % 4 ≡ 0
  end_of_flight_aligned stamp c live = end_aligned (image_of c.state) (seen_of c.state) c.state.pc c.flight live.aligned live.flight.sound

  -- an entry that is issued or done has the outcome of its operation on what it sees
  pub issued_outcome : (stamp : ℕ) (c : Context) (i : ℕ) (x : Execution) → i < length c.flight → (entry_at c i).stage ≡ Issued x → IsLive start stamp c
      → IsOutcome (image_of c.state) (seen_at c i) (entry_at c i).operation (entry_at c i).pc x.outcome
  issued_outcome stamp c i x lt stage live =
      let s = sound_at (image_of c.state) (seen_of c.state) c.state.pc c.flight i no_entry lt live.flight.sound in
      let has : HasOutcome (image_of c.state) (seen_at c i) (entry_at c i).operation (entry_at c i).pc (Issued x) = subst (λ t. HasOutcome (image_of c.state) (seen_at c i) (entry_at c i).operation (entry_at c i).pc t) stage s.outcome in
      has.1

  pub done_outcome : (stamp : ℕ) (c : Context) (i : ℕ) (x : Execution) → i < length c.flight → (entry_at c i).stage ≡ Done x → IsLive start stamp c
      → IsOutcome (image_of c.state) (seen_at c i) (entry_at c i).operation (entry_at c i).pc x.outcome
  done_outcome stamp c i x lt stage live =
      let s = sound_at (image_of c.state) (seen_of c.state) c.state.pc c.flight i no_entry lt live.flight.sound in
      subst (λ t. HasOutcome (image_of c.state) (seen_at c i) (entry_at c i).operation (entry_at c i).pc t) stage s.outcome

  -- its access has the width of a load or a store
  pub done_sized : (stamp : ℕ) (c : Context) (i : ℕ) (x : Execution) → i < length c.flight → (entry_at c i).stage ≡ Done x → IsLive start stamp c → IsOutcomeSized x.outcome
  done_sized stamp c i x lt stage live =
      let out = done_outcome stamp c i x lt stage live in
      subst IsOutcomeSized (sym out.is) (outcome_sized (image_of c.state) (seen_at c i).bytes (entry_at c i).operation (entry_at c i).pc out.first out.second)
