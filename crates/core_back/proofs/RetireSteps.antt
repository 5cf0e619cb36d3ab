-- The entries of a cycle retire, one by one, context by context.
use Rattle.std.proofs.Common.{◌≡◌, ℕ, zero, suc, ◌+◌, ◌-◌, ◌%◌, ◌<◌, ◌≤◌, Bool, true, false, List, [], ◌∷◌, ◌++◌, Some, None, refl, sym, ap, ◌∙◌, subst, arith, append-nil, not, inl, inr, ◌⊎◌, ◌*◌}
use mir.Val.{bool_byte}
use Rattle.std.specs.Int.{bit_at}
use Rattle.std.specs.Prelude.{is_some, IsSome}
use Rattle.hart_step.specs.State.{State}
use Rattle.hart_step.specs.declared.stop.Stop.{Stop}
use Rattle.origin_set.specs.Start.{start}
use Rattle.fetch_policy.specs.Lawful.{turn}
use Rattle.core_view.specs.declared.outcome.Step.{Step}
use Rattle.core_view.specs.declared.outcome.Outcome.TheVariants.{Goes, Stops}
use Rattle.core_view.specs.declared.note.EntryId.{EntryId}
use Rattle.core_view.specs.View.{Context, IsLive, entry_at}
use Rattle.core_view.specs.Events.{retire_event, stop_event}
use Rattle.lawful_cycle.specs.Retire.{KeepsDone}
use Rattle.core_context.specs.Heads.{first_done}
use Rattle.core_back.specs.Machine.{Machine, context_at, with_context}
use Rattle.core_back.specs.Turn.{TurnsBy, IsTurn, IsOnWay, IsInTurn, GoesOn, ended, id_of}
use Rattle.core_back.proofs.RetiredFronts.{way_first, way_open, way_next, way_none, way_ended, way_stop, none_kept, stop_keeps_none, context_now, one_changed, none_changed, context_ended, one_ended, listed_more}
use Rattle.core_back.proofs.DoneTurns.{none_some}
use Rattle.core_back.proofs.RetireTurns.{Turned, AllLive, turned_next, one_turn}

-- ---- in a context's turn

module _ (s : State) (stamp : ℕ) (b m n : Machine) (c k room left : ℕ) (old ids : List EntryId) (live : IsLive s stamp (context_at b c)) (so_far : IsInTurn b m c k room left old ids) where
  -- no entry is done
  pub turn_ends : n ≡ m → first_done (context_at m c).flight ≡ None → IsTurn b n c room left old ids
  turn_ends is none = subst (λ (j : Machine). IsTurn b j c room left old ids) (sym is) (record {
    number = k;
    after = so_far.after;
    taken = so_far.taken;
    turned = way_none s stamp (context_at b c) live (context_at m c) k so_far.way none;
    listed = so_far.listed;
    kept = λ keeps. absurd (none_kept (context_at m c) none keeps);
  })

  -- one that is done stops the context
  pub turn_stops : (why : Stop) → first_done (context_at m c).flight ≡ Some (Stops why) → n ≡ with_context m c (stop_event (context_at m c) why) → IsTurn b n c room left old ids
  turn_stops why done is =
      let now : context_at n c ≡ stop_event (context_at m c) why = context_now m n c (stop_event (context_at m c) why) (Stops why) done is in
      record {
        number = k;
        after = one_changed m n c (stop_event (context_at m c) why) (Stops why) done is b so_far.after;
        taken = so_far.taken;
        turned = subst (λ y. TurnsBy k (context_at b c) y (context_at b c).status) (sym now) (way_stop s stamp (context_at b c) live (context_at m c) k why so_far.way done);
        listed = so_far.listed;
        kept = λ keeps. absurd (stop_keeps_none (context_at m c) why (subst KeepsDone now keeps));
      }

  -- nothing is left of the width
  pub turn_used_up : left ≡ 0 → n ≡ with_context m c (ended (context_at m c)) → IsTurn b n c room left old ids
  turn_used_up none is = record {
    number = k;
    after = one_ended m n c is b so_far.after;
    taken = so_far.taken;
    turned = subst (λ y. TurnsBy k (context_at b c) y (context_at b c).status) (sym (context_ended m n c is)) (way_ended s stamp (context_at b c) live (context_at m c) k so_far.way);
    listed = so_far.listed;
    kept = λ _. none;
  }

  -- one retires
  pub turn_retires : (step : Step) (less : ℕ) (new : List EntryId) (id : EntryId) → first_done (context_at m c).flight ≡ Some (Goes step) → n ≡ with_context m c (retire_event (context_at m c) step) → less + 1 ≡ left
      → id ≡ id_of c (entry_at (context_at m c) 0) → new ≡ ids ++ id ∷ [] → IsInTurn b n c (k + 1) room less old new
  turn_retires step less new id done is fewer named more =
      let open_ = way_open s stamp (context_at b c) live (context_at m c) k (Goes step) so_far.way done in
      let taken = so_far.taken in
      record {
        after = one_changed m n c (retire_event (context_at m c) step) (Goes step) done is b so_far.after;
        taken = omega (arith, taken, fewer);
        way = subst (λ y. IsOnWay (context_at b c) y (k + 1)) (sym (context_now m n c (retire_event (context_at m c) step) (Goes step) done is)) (way_next s stamp (context_at b c) live (context_at m c) k step so_far.way done);
        listed = listed_more (context_at b c) (context_at m c) c k old ids new id open_.flight open_.more named so_far.listed more;
      }

-- the next one is done, or its turn is over
pub turn_goes_on : (s : State) (stamp : ℕ) (b n : Machine) (c k room left : ℕ) (old ids : List EntryId) (on : Bool) → IsLive s stamp (context_at b c) → IsInTurn b n c k room left old ids → on ≡ is_some (first_done (context_at n c).flight)
    → GoesOn on b n c k room left old ids
turn_goes_on s stamp b n c k room left old ids true live so_far is = so_far
turn_goes_on s stamp b n c k room left old ids false live so_far is = turn_ends s stamp b n n c k room left old ids live so_far refl (none_some (first_done (context_at n c).flight) (sym is))

-- ---- context by context

-- the turns before this one are over, and its context is in its own
pub record InTurn (width t : ℕ) (m n : Machine) (left : ℕ) (ids : List EntryId) : Type 0 where
  pub before : Machine
  pub room : ℕ
  pub old : List EntryId
  pub number : ℕ
  pub turned : Turned width t m before room old
  pub so_far : (c : ℕ) → c < 8 → turn m.view.cycle c ≡ t → IsInTurn before n c number room left old ids

-- at a turn, or past the last
pub record AtTurn (width t : ℕ) (m n : Machine) (left : ℕ) (ids : List EntryId) : Type 0 where
  pub in_turn : t < 8 → InTurn width t m n left ids
  pub over : 8 ≤ t → Turned width 8 m n left ids
  -- the oldest entry of the context at the turn is done
  pub ready : t < 8 → (c : ℕ) → c < 8 → turn m.view.cycle c ≡ t → IsSome (first_done (context_at n c).flight)

module _ (width : ℕ) (m : Machine) (live : AllLive m) where
  module _ (n : Machine) (left : ℕ) (ids : List EntryId) where
    turn_begins : (t : ℕ) → Turned width t m n left ids → InTurn width t m n left ids
    turn_begins t h = record {
      before = n;
      room = left;
      old = ids;
      number = 0;
      turned = h;
      so_far = λ c lc at. record {
        after = none_changed n c;
        taken = omega arith;
        way = subst (λ (x : Context). IsOnWay x x 0) (sym (h.not_yet c lc (omega (arith, at))).same) (way_first (start m.origin c) m.view.stamp (context_at m c) (live c lc));
        listed = sym (append-nil ids);
      };
    }

    -- a context of which no entry is done had its turn
    pass : (t c : ℕ) → c < 8 → turn m.view.cycle c ≡ t → first_done (context_at m c).flight ≡ None → Turned width t m n left ids → Turned width (t + 1) m n left ids
    pass t c lc at none h =
        let same : context_at n c ≡ context_at m c = (h.not_yet c lc (omega (arith, at))).same in
        turned_next width t m n n left left ids ids c h lc at (record {
          number = 0;
          after = none_changed n c;
          taken = omega arith;
          turned = subst (λ (x : Context). TurnsBy 0 x x x.status) (sym same) (way_none (start m.origin c) m.view.stamp (context_at m c) (live c lc) (context_at m c) 0 (way_first (start m.origin c) m.view.stamp (context_at m c) (live c lc)) none);
          listed = sym (append-nil ids);
          kept = λ keeps. absurd (none_kept (context_at n c) (ap (λ (x : Context). first_done x.flight) same ∙ none) keeps);
        })

    pass_all : (d t : ℕ) → t + d ≤ 8 → ((u c : ℕ) → t ≤ u → u < t + d → c < 8 → turn m.view.cycle c ≡ u → first_done (context_at m c).flight ≡ None) → Turned width t m n left ids → Turned width (t + d) m n left ids
    pass_all zero t few none h = let same : t ≡ t + 0 = omega arith in subst (λ u. Turned width u m n left ids) same h
    pass_all (suc d) t few none h =
        let c : ℕ = (m.view.cycle % 8 + t) % 8 in
        let lc : c < 8 = omega arith in
        let at : turn m.view.cycle c ≡ t = omega (arith, few) in
        let same : t + 1 + d ≡ t + suc d = omega arith in
        subst (λ u. Turned width u m n left ids) same
        (pass_all d (t + 1) (omega (arith, few)) (λ u e from below. none u e (omega (arith, from)) (omega (arith, below))) (pass t c lc at (none t c (omega arith) (omega arith) lc at) h))

    -- the next turn of a context of which an entry may be done
    pub arrives : (t u : ℕ) → t ≤ 8 → t ≤ u → ((v c : ℕ) → t ≤ v → v < u → v < 8 → c < 8 → turn m.view.cycle c ≡ v → first_done (context_at m c).flight ≡ None)
        → (u < 8 → (c : ℕ) → c < 8 → turn m.view.cycle c ≡ u → IsSome (first_done (context_at m c).flight)) → Turned width t m n left ids → AtTurn width u m n left ids
    arrives t u few after none done h = record {
      in_turn = λ low. (let same : t + (u - t) ≡ u = omega (arith, after) in
          turn_begins u (subst (λ v. Turned width v m n left ids) same (pass_all (u - t) t (omega (arith, low, after)) (λ v c from below. none v c from (omega (arith, below, after)) (omega (arith, below, after, low))) h)));
      over = λ high. (let same : t + (8 - t) ≡ 8 = omega (arith, few) in
          subst (λ v. Turned width v m n left ids) same (pass_all (8 - t) t (omega (arith, few)) (λ v c from below. none v c from (omega (arith, below, few, high)) (omega (arith, below, few))) h));
      ready = λ low c lc at. subst (λ (x : Context). IsSome (first_done x.flight)) (sym (h.not_yet c lc (omega (arith, at, after))).same) (done low c lc at);
    }

  -- one more entry had its turn
  module _ (n p : Machine) (t c left less : ℕ) (ids new : List EntryId) (here : InTurn width t m n left ids) (lc : c < 8) (at : turn m.view.cycle c ≡ t) where
    pub live_here : IsLive (start m.origin c) m.view.stamp (context_at here.before c)
    live_here = subst (IsLive (start m.origin c) m.view.stamp) (sym (here.turned.not_yet c lc (omega (arith, at))).same) (live c lc)

    pub stays : IsInTurn here.before p c (here.number + 1) here.room less here.old new → InTurn width t m p less new
    stays more = record {
      before = here.before;
      room = here.room;
      old = here.old;
      number = here.number + 1;
      turned = here.turned;
      so_far = λ d ld there. subst (λ e. IsInTurn here.before p e (here.number + 1) here.room less here.old new) (one_turn m.view.cycle c d lc ld (at ∙ sym there)) more;
    }

    pub leaves : IsTurn here.before p c here.room less here.old new → Turned width (t + 1) m p less new
    leaves gone = turned_next width t m here.before p here.room less here.old new c here.turned lc at gone

-- ---- the step to the next turn

no-one : ◌≡◌ {A = ℕ} 1 0 → ⊥
no-one e = omega (arith, e)

-- the first turn from one on whose bit is set is that one, where its bit is set
same-turn : (word t u : ℕ) → bit_at word t ≡ 1 → t ≤ u → ((i : ℕ) → t ≤ i → i < u → bit_at word i ≡ 0) → u ≡ t
same-turn word t u set from clear = elim (lt-or t u) [
  | inl past ↦ absurd (no-one (sym set ∙ clear t (omega arith) past))
  | inr not_past ↦ omega (arith, from, not_past)
]
  where
    lt-or : (a b : ℕ) → (a < b) ⊎ (b ≤ a)
    lt-or a b = grind arith

module _ (width : ℕ) (m : Machine) (live : AllLive m) (n p : Machine) (t c left less : ℕ) (ids new : List EntryId) (here : InTurn width t m n left ids) (lc : c < 8) (at : turn m.view.cycle c ≡ t) where
  pub goes_to : (word u bit : ℕ) (on : Bool) → bit ≡ bool_byte (not on) → t < 8 → bit_at word t ≡ 1 → t + bit ≤ u → ((i : ℕ) → t + bit ≤ i → i < u → bit_at word i ≡ 0)
      → ((v d : ℕ) → t ≤ v → v < 8 → d < 8 → turn m.view.cycle d ≡ v → bit_at word v ≡ 0 → first_done (context_at m d).flight ≡ None)
      → (u < 8 → (d : ℕ) → d < 8 → turn m.view.cycle d ≡ u → IsSome (first_done (context_at m d).flight)) → (on ≡ true → IsSome (first_done (context_at p c).flight))
      → ((b : Machine) (k room : ℕ) (old : List EntryId) → IsLive (start m.origin c) m.view.stamp (context_at b c) → IsInTurn b n c k room left old ids → GoesOn on b p c (k + 1) room less old new)
      → AtTurn width u m p less new
  goes_to word u bit true is low set from clear none done now more =
      let zero_bit : bit ≡ 0 = omega (arith, is) in
      let same : u ≡ t = same-turn word t u set (omega (arith, from)) (λ i after below. clear i (omega (arith, zero_bit, after)) below) in
      let on = stays width m live n p t c left less ids new here lc at (more here.before here.number here.room here.old (live_here width m live n p t c left less ids new here lc at) (here.so_far c lc at)) in
      record {
        in_turn = λ l. subst (λ v. InTurn width v m p less new) (sym same) on;
        over = λ high. absurd (omega (arith, low, same, high));
        ready = λ l d ld there. subst (λ e. IsSome (first_done (context_at p e).flight)) (one_turn m.view.cycle c d lc ld (at ∙ sym same ∙ sym there)) (now refl);
      }
  goes_to word u bit false is low set from clear none done now more =
      let one_bit : t + bit ≡ t + 1 = omega (arith, is) in
      arrives width m live p less new (t + 1) u (omega (arith, low)) (omega (arith, from, one_bit)) (λ v d after below l ld there. none v d (omega (arith, after)) l ld there (clear v (omega (arith, after, one_bit)) below)) done
      (leaves width m live n p t c left less ids new here lc at (more here.before here.number here.room here.old (live_here width m live n p t c left less ids new here lc at) (here.so_far c lc at)))

-- what was dropped is bounded by what is left
pub turn_bound : (on : Bool) (dropped now left less t bit u : ℕ) → dropped + left * 80 ≤ 1280 + t * 80 → now ≤ dropped + 80 → less ≤ left → (on ≡ true → less + 1 ≡ left) → bit ≡ bool_byte (not on) → t + bit ≤ u
    → now + less * 80 ≤ 1280 + u * 80
turn_bound true dropped now left less t bit u before most fewer one is from = let less_one : less + 1 ≡ left = one refl in omega (arith, before, most, less_one, from)
turn_bound false dropped now left less t bit u before most fewer one is from = omega (arith, before, most, fewer, is, from)

-- what is left of the width and of the turns gets less
pub turn_smaller : (on : Bool) (left less t bit u : ℕ) → less ≤ left → (on ≡ true → less + 1 ≡ left) → bit ≡ bool_byte (not on) → t + bit ≤ u → t < 64 → less + (64 - u) < left + (64 - t)
turn_smaller true left less t bit u fewer one is from low = let less_one : less + 1 ≡ left = one refl in omega (arith, less_one, from, low)
turn_smaller false left less t bit u fewer one is from low = omega (arith, fewer, is, from, low)
