-- A front of a flight retires, entry by entry.
use Rattle.std.proofs.Common.{◌≡◌, ◌≢◌, ℕ, zero, suc, ◌+◌, ◌<◌, ◌≤◌, Bool, true, false, List, [], ◌∷◌, ◌++◌, length, take, drop, get_or, map, All, Option, Some, None, refl, sym, ap, ◌∙◌, subst, arith, add-zero, append_assoc}
use Rattle.std.specs.Prelude.{◌==◌, ◌&&◌, if◌then◌else◌, set, is_some}
use Rattle.std.proofs.lemmas.Bool.Decides.{nat_tests}
use Rattle.std.proofs.lemmas.List.{drop-drop, take_more, set-get_or}
use Rattle.std.proofs.lemmas.List.Elements.{All-push}
use Rattle.hart_step.specs.State.{State}
use Rattle.hart_step.specs.declared.stop.Stop.{Stop}
use Rattle.core_view.specs.declared.outcome.Step.{Step}
use Rattle.core_view.specs.declared.outcome.Outcome.{Outcome}
use Rattle.core_view.specs.declared.outcome.Outcome.TheVariants.{Goes, Stops}
use Rattle.core_view.specs.declared.entry.Stage.{Stage}
use Rattle.core_view.specs.declared.entry.Stage.TheVariants.{Fetched, Queued, Issued, Done}
use Rattle.core_view.specs.declared.entry.Entry.{Entry}
use Rattle.core_view.specs.declared.status.Status.{Status}
use Rattle.core_view.specs.declared.status.Status.TheVariants.{Running, Parked, Stopped}
use Rattle.core_view.specs.Flight.{is_done}
use Rattle.core_view.specs.View.{Context, IsLive, StatusHolds, no_entry, entry_at}
use Rattle.core_view.proofs.Live.{flight_running}
use Rattle.core_view.specs.Events.{retire_event, stop_event}
use Rattle.lawful_cycle.specs.Retire.{goes_on, is_done_on, stop_in, stop_done, stop_at_front, is_front_done, status_past, flight_if, past, KeepsDone}
use Rattle.core_view.specs.declared.note.EntryId.{EntryId}
use Rattle.core_back.specs.Machine.{Machine, context_at, in_flight, with_context, with_contexts, no_context}
use Rattle.core_context.specs.Heads.{done_outcome, first_done}
use Rattle.core_back.specs.Turn.{TurnsBy, reached, IsOnWay, stopped_by, ended, id_of}
use Rattle.core_back.proofs.InFlight.{flight-with_context}

-- ---- the front entry

stage_goes : (s : Stage) (step : Step) → done_outcome s ≡ Some (Goes step) → is_done_on s ≡ true
stage_goes Fetched step h = absurd cc
stage_goes Queued step h = absurd cc
stage_goes (Issued x) step h = absurd cc
stage_goes (Done x) step h = let e : x.outcome ≡ Goes step = cc in ap goes_on e

front_stops : (o : Option Outcome) (es : List Entry) → first_done es ≡ o → stop_at_front es ≡ (elim o as (λ _. Option Stop) [ None ↦ None | Some w ↦ stop_in w ])
front_stops o [] h = ap (λ q. elim q as (λ _. Option Stop) [ None ↦ None | Some w ↦ stop_in w ]) h
front_stops o (e ∷ es) h = by_stage e.stage h
  where
    by_stage : (s : Stage) → done_outcome s ≡ o → stop_done s ≡ (elim o as (λ _. Option Stop) [ None ↦ None | Some w ↦ stop_in w ])
    by_stage Fetched q = ap (λ q. elim q as (λ _. Option Stop) [ None ↦ None | Some w ↦ stop_in w ]) q
    by_stage Queued q = ap (λ q. elim q as (λ _. Option Stop) [ None ↦ None | Some w ↦ stop_in w ]) q
    by_stage (Issued x) q = ap (λ q. elim q as (λ _. Option Stop) [ None ↦ None | Some w ↦ stop_in w ]) q
    by_stage (Done x) q = ap (λ q. elim q as (λ _. Option Stop) [ None ↦ None | Some w ↦ stop_in w ]) q

front_none : (es : List Entry) → first_done es ≡ None → is_front_done es ≡ false
front_none [] h = refl
front_none (e ∷ es) h = by_stage e.stage h
  where
    by_stage : (s : Stage) → done_outcome s ≡ None → is_done s ≡ false
    by_stage Fetched q = refl
    by_stage Queued q = refl
    by_stage (Issued x) q = refl
    by_stage (Done x) q = absurd cc

some_left : (k : ℕ) (es : List Entry) (o : Outcome) → first_done (drop k es) ≡ Some o → k < length es
some_left zero [] o h = absurd cc
some_left zero (e ∷ es) o h = omega arith
some_left (suc k) [] o h = absurd cc
some_left (suc k) (e ∷ es) o h = omega (arith, some_left k es o h)

front_goes : (k : ℕ) (es : List Entry) (step : Step) → first_done (drop k es) ≡ Some (Goes step) → is_done_on (get_or es k no_entry).stage ≡ true
front_goes zero [] step h = absurd cc
front_goes zero (e ∷ es) step h = stage_goes e.stage step h
front_goes (suc k) [] step h = absurd cc
front_goes (suc k) (e ∷ es) step h = front_goes k es step h

gone_more : (k : ℕ) (es : List Entry) (step : Step) → k < length es → first_done (drop k es) ≡ Some (Goes step) → All (λ e. is_done_on e.stage ≡ true) (take k es) → All (λ e. is_done_on e.stage ≡ true) (take (k + 1) es)
gone_more k es step more h gone =
    rw (take_more es k no_entry more) (All-push (λ (e : Entry). is_done_on e.stage ≡ true) (take k es) (get_or es k no_entry) gone (front_goes k es step h))

-- ---- a context on its way

same_context : (y : Context) (status : Status) (count target : ℕ) (state : State) (flight : List Entry) → y.status ≡ status → y.count ≡ count → y.target ≡ target → y.state ≡ state → y.flight ≡ flight
    → y ≡ record { status = status; count = count; target = target; state = state; flight = flight }
same_context y status count target state flight a b c d e = rw (← a, ← b, ← c, ← d, ← e) refl

module _ (start : State) (stamp : ℕ) (x : Context) (live : IsLive start stamp x) where
  pub way_first : IsOnWay x x 0
  way_first = record {
    at = go x.status refl (x.count == x.target) refl;
    front = omega arith;
    gone = λ k d lt. absurd (omega (arith, lt));
    within = λ r. let h : x.count < x.target = subst (λ s. StatusHolds s x) r live.status in omega (arith, h);
    none = λ _. refl;
  }
    where
      go : (s : Status) → x.status ≡ s → (b : Bool) → (x.count == x.target) ≡ b → x ≡ reached x 0 x.state
      go Running r true q =
          let h : x.count < x.target = subst (λ s. StatusHolds s x) r live.status in
          let e : x.count ≡ x.target = grind (arith, nat_tests, q) in absurd (omega (arith, h, e))
      go (Stopped why) r true q =
          let h = subst (λ s. StatusHolds s x) r live.status in
          let lt : x.count < x.target = h.0 in
          let e : x.count ≡ x.target = grind (arith, nat_tests, q) in absurd (omega (arith, lt, e))
      go Parked r true q =
          let h = subst (λ s. StatusHolds s x) r live.status in
          let empty : x.flight ≡ [] = h.1 in
          rw (add-zero x.count, q) (same_context x Parked x.count x.target x.state [] r refl refl refl empty)
      go s r false q = rw (add-zero x.count, q) refl

  -- a context with a done entry at its front hasn't reached its target, and runs
  pub record IsOpen (y : Context) (k : ℕ) : Type 0 where
    pub below : (x.count + k == x.target) ≡ false
    pub flight : y.flight ≡ drop k x.flight
    pub more : k < length x.flight
    pub running : x.status ≡ Running

  pub way_open : (y : Context) (k : ℕ) (o : Outcome) → IsOnWay x y k → first_done y.flight ≡ Some o → IsOpen y k
  way_open y k o way h = go (x.count + k == x.target) refl
    where
      flight-is : y.flight ≡ (if x.count + k == x.target then [] else drop k x.flight)
      flight-is = ap (λ (z : Context). z.flight) way.at

      go : (b : Bool) → (x.count + k == x.target) ≡ b → IsOpen y k
      go true q =
          let none : first_done y.flight ≡ None = ap first_done (rw q at flight-is) in absurd (cc)
      go false q =
          let rest : y.flight ≡ drop k x.flight = rw q at flight-is in
          let some : first_done (drop k x.flight) ≡ Some o = rw rest at h in
          let more : k < length x.flight = some_left k x.flight o some in
          record { below = q; flight = rest; more = more; running = flight_running start stamp x (omega arith) live }

  -- the entry at the front retires
  pub way_next : (y : Context) (k : ℕ) (step : Step) → IsOnWay x y k → first_done y.flight ≡ Some (Goes step) → IsOnWay x (retire_event y step) (k + 1)
  way_next y k step way h =
      let open_ = way_open y k (Goes step) way h in
      let more : k < length x.flight = open_.more in
      let count-is : y.count ≡ x.count + k = ap (λ (z : Context). z.count) way.at in
      let target-is : y.target ≡ x.target = ap (λ (z : Context). z.target) way.at in
      let sum : x.count + (k + 1) ≡ y.count + 1 = omega (arith, count-is) in
      let rest : drop 1 y.flight ≡ drop (k + 1) x.flight = ap (drop 1) open_.flight ∙ drop-drop 1 k x.flight in
      let status-is : (retire_event y step).status ≡ (if x.count + (k + 1) == x.target then Parked else x.status) = rw (sum, open_.running, target-is) refl in
      let flight-is : (retire_event y step).flight ≡ (if x.count + (k + 1) == x.target then [] else drop (k + 1) x.flight) = rw (sum, ← rest, target-is) refl in
      let under : x.count + k ≤ x.target = way.within open_.running in
      let apart : x.count + k ≢ x.target = λ e. absurd (grind (arith, nat_tests, e, open_.below)) in
      record {
        at = same_context (retire_event y step) (if x.count + (k + 1) == x.target then Parked else x.status) (x.count + (k + 1)) x.target (retire_event y step).state
            (if x.count + (k + 1) == x.target then [] else drop (k + 1) x.flight) status-is (sym sum) target-is refl flight-is;
        front = omega (arith, more);
        gone = gone_more k x.flight step more (rw open_.flight at h) way.gone;
        within = λ r. omega (arith, under, apart);
        none = λ e. absurd (omega (arith, e));
      }

  -- ---- the end of a turn

  turn_over : (y : Context) (k : ℕ) → IsOnWay x y k → stop_at_front y.flight ≡ None → TurnsBy k x y x.status
  turn_over y k way none = by_status x.status refl
    where
      flight-is : y.flight ≡ (if x.count + k == x.target then [] else drop k x.flight)
      flight-is = ap (λ (z : Context). z.flight) way.at

      idle : x.flight ≡ [] → (k ≡ 0) × (y ≡ x)
      idle empty = let f = way.front in let zero_k : k ≡ 0 = omega (arith, f, ap length empty) in (zero_k, way.none zero_k)

      is_past : x.status ≡ Running → (b : Bool) → (x.count + k == x.target) ≡ b → reached x k y.state ≡ past x k y.state
      is_past r true q = rw q refl
      is_past r false q =
          let none_left : stop_at_front (drop k x.flight) ≡ None = ap stop_at_front (sym (rw q at flight-is)) ∙ none in
          rw (q, none_left, r) refl

      by_status : (s : Status) → x.status ≡ s → TurnsBy k x y s
      by_status Running r = record { front = way.front; done = way.gone; within = way.within r; is = way.at ∙ is_past r (x.count + k == x.target) refl }
      by_status Parked r = let empty : x.flight ≡ [] = (subst (λ s. StatusHolds s x) r live.status).1 in idle empty
      by_status (Stopped why) r = let empty : x.flight ≡ [] = (subst (λ s. StatusHolds s x) r live.status).1 in idle empty

  -- no done entry is at the front
  pub way_none : (y : Context) (k : ℕ) → IsOnWay x y k → first_done y.flight ≡ None → TurnsBy k x y x.status
  way_none y k way h = turn_over y k way (front_stops None y.flight h)

  -- one that goes on is left there
  pub way_left : (y : Context) (k : ℕ) (step : Step) → IsOnWay x y k → first_done y.flight ≡ Some (Goes step) → TurnsBy k x y x.status
  way_left y k step way h = turn_over y k way (front_stops (Some (Goes step)) y.flight h)

  -- one that stops
  pub way_stop : (y : Context) (k : ℕ) (why : Stop) → IsOnWay x y k → first_done y.flight ≡ Some (Stops why) → TurnsBy k x (stop_event y why) x.status
  way_stop y k why way h =
      let open_ = way_open y k (Stops why) way h in
      let stops : stop_at_front (drop k x.flight) ≡ Some why = ap stop_at_front (sym open_.flight) ∙ front_stops (Some (Stops why)) y.flight h in
      let count-is : y.count ≡ x.count + k = ap (λ (z : Context). z.count) way.at in
      let target-is : y.target ≡ x.target = ap (λ (z : Context). z.target) way.at in
      let status-is : (stop_event y why).status ≡ status_past x k = rw (open_.below, stops) refl in
      let flight-is : (stop_event y why).flight ≡ flight_if (status_past x k) (drop k x.flight) = rw (open_.below, stops) refl in
      subst (TurnsBy k x (stop_event y why)) (sym open_.running) (record {
        front = way.front;
        done = way.gone;
        within = way.within open_.running;
        is = same_context (stop_event y why) (status_past x k) (x.count + k) x.target y.state (flight_if (status_past x k) (drop k x.flight)) status-is count-is target-is refl flight-is;
      })

  -- so at the end of its turn
  pub way_ended : (y : Context) (k : ℕ) → IsOnWay x y k → TurnsBy k x (ended y) x.status
  way_ended y k way = by_front (first_done y.flight) refl
    where
      by_front : (o : Option Outcome) → first_done y.flight ≡ o → TurnsBy k x (stopped_by (first_done y.flight) y) x.status
      by_front None is = rw is (way_none y k way is)
      by_front (Some (Goes step)) is = rw is (way_left y k step way is)
      by_front (Some (Stops why)) is = rw is (way_stop y k why way is)

-- a context of which no entry is done at the front keeps none there; nor does one that was stopped
pub none_kept : (y : Context) → first_done y.flight ≡ None → ¬ KeepsDone y
none_kept y h keeps = let f : is_front_done y.flight ≡ false = front_none y.flight h in let t = keeps.done in absurd cc

pub stop_keeps_none : (y : Context) (why : Stop) → ¬ KeepsDone (stop_event y why)
stop_keeps_none y why keeps = let t : Stopped why ≡ Running = keeps.running in absurd cc

-- ---- the machine in a context's turn

set_twice : (xs : List Context) (c : ℕ) (a b : Context) → set (set xs c a) c b ≡ set xs c b
set_twice [] c a b = refl
set_twice (x ∷ xs) zero a b = refl
set_twice (x ∷ xs) (suc c) a b = ap (λ ys. x ∷ ys) (set_twice xs c a b)

set_read : (xs : List Context) (c : ℕ) (a : Context) → 0 < length (get_or xs c no_context).flight → get_or (set xs c a) c no_context ≡ a
set_read [] c a some = absurd (omega (arith, some))
set_read (x ∷ xs) zero a some = refl
set_read (x ∷ xs) (suc c) a some = set_read xs c a some

some_flight : (es : List Entry) (o : Outcome) → first_done es ≡ Some o → 0 < length es
some_flight [] o h = absurd cc
some_flight (e ∷ es) o h = omega arith

some_context : (xs : List Context) (c : ℕ) → 0 < length (get_or xs c no_context).flight → c < length xs
some_context [] c some = absurd (omega (arith, some))
some_context (x ∷ xs) zero some = omega arith
some_context (x ∷ xs) (suc c) some = omega (arith, some_context xs c some)

-- a context that has a done entry at its front becomes another
module _ (m n : Machine) (c : ℕ) (x : Context) (o : Outcome) (done : first_done (context_at m c).flight ≡ Some o) (e : n ≡ with_context m c x) where
  pub context_now : context_at n c ≡ x
  context_now = ap (λ (k : Machine). context_at k c) e ∙ set_read m.view.contexts c x (some_flight (context_at m c).flight o done)

  -- so only this context has changed in its turn
  pub one_changed : (k : Machine) → m ≡ with_context k c (context_at m c) → n ≡ with_context k c (context_at n c)
  one_changed k f =
      e ∙ ap (λ (j : Machine). with_context j c x) f ∙ ap (with_contexts k) (set_twice k.view.contexts c (context_at m c) x) ∙ ap (with_context k c) (sym context_now)

-- ---- the next entry

-- it is the oldest where nothing else has left, and where all have left and none but the oldest was dropped there was none
next_left : (es : List Entry) (parked next : Bool) (dropped : ℕ) → next ≡ is_some (first_done (drop 1 es)) → 0 < length es → dropped + 1 + length (if parked then [] else drop 1 es) ≡ length es
    → (next && (dropped == 0)) ≡ is_some (first_done (if parked then [] else drop 1 es))
next_left [] parked next dropped is some fewer = absurd (omega (arith, some))
next_left (e ∷ es) false false dropped is some fewer = is
next_left (e ∷ es) false true zero is some fewer = is
next_left (e ∷ es) false true (suc d) is some fewer = absurd (omega (arith, fewer))
next_left (e ∷ es) true false dropped is some fewer = refl
next_left (e ∷ es) true true (suc d) is some fewer = grind (arith, nat_tests)
next_left (e ∷ []) true true zero is some fewer = absurd cc
next_left (e ∷ f ∷ es) true true zero is some fewer = absurd (omega (arith, fewer))

-- a context goes on after its oldest entry retired where its next one was done, and none was dropped
pub next_stays : (m n : Machine) (c : ℕ) (step : Step) (next : Bool) (dropped : ℕ) → first_done (context_at m c).flight ≡ Some (Goes step) → n ≡ with_context m c (retire_event (context_at m c) step) → dropped + 1 + in_flight n ≡ in_flight m
    → next ≡ is_some (first_done (drop 1 (context_at m c).flight)) → (next && (dropped == 0)) ≡ is_some (first_done (context_at n c).flight)
next_stays m n c step next dropped done is fewer known =
    let x = context_at m c in
    let some : 0 < length x.flight = some_flight x.flight (Goes step) done in
    next_left x.flight (x.count + 1 == x.target) next dropped known some (flight-with_context m n c (retire_event x step) (dropped + 1) is (some_context m.view.contexts c some) fewer)
    ∙ ap (λ (y : Context). is_some (first_done y.flight)) (sym (context_now m n c (retire_event x step) (Goes step) done is))

-- ---- the machine as it was

pub none_changed : (m : Machine) (c : ℕ) → m ≡ with_context m c (context_at m c)
none_changed m c = ap (with_contexts m) (sym (set-get_or m.view.contexts c no_context))

-- a context's turn ends
module _ (m n : Machine) (c : ℕ) (e : n ≡ with_context m c (ended (context_at m c))) where
  pub context_ended : context_at n c ≡ ended (context_at m c)
  context_ended = by_front (first_done (context_at m c).flight) refl
    where
      same : (x : Context) → ended (context_at m c) ≡ x → x ≡ context_at m c → context_at n c ≡ ended (context_at m c)
      same x is own = ap (λ (k : Machine). context_at k c) (e ∙ ap (with_context m c) (is ∙ own) ∙ sym (none_changed m c)) ∙ sym own ∙ sym is

      by_front : (o : Option Outcome) → first_done (context_at m c).flight ≡ o → context_at n c ≡ ended (context_at m c)
      by_front None is = same (context_at m c) (ap (λ q. stopped_by q (context_at m c)) is) refl
      by_front (Some (Goes step)) is = same (context_at m c) (ap (λ q. stopped_by q (context_at m c)) is) refl
      by_front (Some (Stops why)) is = context_now m n c (ended (context_at m c)) (Stops why) is e

  pub one_ended : (k : Machine) → m ≡ with_context k c (context_at m c) → n ≡ with_context k c (context_at n c)
  one_ended k f =
      e ∙ ap (λ (j : Machine). with_context j c (ended (context_at m c))) f ∙ ap (with_contexts k) (set_twice k.view.contexts c (context_at m c) (ended (context_at m c))) ∙ ap (with_context k c) (sym context_ended)

-- ---- what is listed

pub listed_more : (x y : Context) (c k : ℕ) (old ids new : List EntryId) (n : EntryId) → y.flight ≡ drop k x.flight → k < length x.flight → n ≡ id_of c (entry_at y 0)
    → ids ≡ old ++ map (id_of c) (take k x.flight) → new ≡ ids ++ n ∷ [] → new ≡ old ++ map (id_of c) (take (k + 1) x.flight)
listed_more x y c k old ids new n rest more is before after =
    let same : n ≡ id_of c (get_or x.flight k no_entry) = is ∙ ap (λ (es : List Entry). id_of c (get_or es 0 no_entry)) rest ∙ ap (id_of c) (drop_first k x.flight) in
    after ∙ ap (λ (js : List EntryId). js ++ n ∷ []) before ∙ append_assoc old (map (id_of c) (take k x.flight)) (n ∷ [])
    ∙ ap (λ (j : EntryId). old ++ (map (id_of c) (take k x.flight) ++ j ∷ [])) same
    ∙ ap (λ (js : List EntryId). old ++ js) (sym (map_snoc c (take k x.flight) (get_or x.flight k no_entry)) ∙ ap (map (id_of c)) (sym (take_more x.flight k no_entry more)))
  where
    drop_first : (i : ℕ) (es : List Entry) → get_or (drop i es) 0 no_entry ≡ get_or es i no_entry
    drop_first zero es = refl
    drop_first (suc i) [] = refl
    drop_first (suc i) (e ∷ es) = drop_first i es

    map_snoc : (d : ℕ) (es : List Entry) (e : Entry) → map (id_of d) (es ++ e ∷ []) ≡ map (id_of d) es ++ id_of d e ∷ []
    map_snoc d [] e = refl
    map_snoc d (f ∷ es) e = ap (λ (js : List EntryId). id_of d f ∷ js) (map_snoc d es e)
