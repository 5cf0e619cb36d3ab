-- What is selected of the queue, by the places of the flights.
use Rattle.std.proofs.Common.{◌≡◌, ℕ, zero, suc, ◌<◌, ◌≤◌, Bool, true, false, not, ◌&&◌, ◌||◌, cond, List, [], ◌∷◌, length, get_or, take, map, Option, Some, None, refl, sym, ap, subst, ◌∙◌, arith, inl, inr}
use Rattle.std.specs.Prelude.{◌==◌, nat_lt, filter, All, Contains, is_some}
use Rattle.std.specs.List.{list_any}
use Rattle.std.proofs.lemmas.Bool.{and_parts, eqb-true, eq-eqb, lt-ltb, ltb-true, cases_lt, not-true, true≢false}
use Rattle.std.proofs.lemmas.List.{length-map, get_or-map, get_or_default}
use Rattle.std.proofs.lemmas.List.Elements.{All-head, All-tail}
use Rattle.hart_step.specs.State.{State}
use Rattle.issue_queue.specs.declared.entry.QueueView.{QueueView}
use Rattle.issue_queue.specs.Entry.{Entry as Waiting, IsReady, AreDistinct, is_named}
use Rattle.issue_queue.specs.Views.{name_of, view_of}
use Rattle.issue_queue.specs.IsSelected.{IsInOrder, IsSelected, is_among}
use Rattle.core_view.specs.declared.note.EntryId.{EntryId}
use Rattle.core_view.specs.declared.entry.Stage.TheVariants.{Queued}
use Rattle.core_view.specs.declared.entry.Entry.{Entry}
use Rattle.core_view.specs.Operations.{is_guessed}
use Rattle.core_view.specs.Flight.{known, IsGrowing, is_queued, is_open_guess}
use Rattle.core_view.specs.View.{View, Context, entry_at, no_entry}
use Rattle.data_flow.specs.Flow.{Flow, Waiter, lane, sources_at, both, is_supplied, is_waiter, waits_of, queued_waiter, queued}
use Rattle.lawful_cycle.specs.Views.{context_in, is_id}
use Rattle.lawful_cycle.specs.Issue.{first_value, second_value, is_ready_on, is_ready, Place, entry_in, id_in, queue_view, IsNotAfter}
use Rattle.core_context.specs.Queued.{unheld, waiting_of, waiter_for}
use Rattle.core_context.specs.Issuable.{may_issue_at, IsMarked, must_wait}
use Rattle.core_context.specs.Track.{Track}
use Rattle.core_context.specs.Cores.{is_waiting, waiters_of, IsCore}
use Rattle.core_back.specs.Selected.{IsChoiceOf, IsChosenOf, IsChosen, is_supplied_at, IsSuppliedPlace}
use Rattle.core_context.proofs.Laws.{queued_renamed, behind_at, sources_are, eqb-flip, same_place, queued_stage}
use Rattle.core_back.proofs.Selections.{no_waiter, no_waiting, supplied_is}

-- ---- what waits, and its place

-- the place of a queued entry as it waits
waiter_place : (h : Entry → Waiter) (p : Entry → Bool) (es : List Entry) (u : Waiter) (k : ℕ) → k < length (map h (filter p es)) → get_or (map h (filter p es)) k u ≡ u → (i : ℕ) × (i < length es) × (p (get_or es i no_entry) ≡ true) × (h (get_or es i no_entry) ≡ u)
waiter_place h p [] u k lt is = absurd (omega arith)
waiter_place h p (e ∷ es) u k lt is = go (p e) refl (λ j below here. waiter_place h p es u j below here) k lt is
  where
    later : (i : ℕ) × (i < length es) × (p (get_or es i no_entry) ≡ true) × (h (get_or es i no_entry) ≡ u) → (i : ℕ) × (i < length (e ∷ es)) × (p (get_or (e ∷ es) i no_entry) ≡ true) × (h (get_or (e ∷ es) i no_entry) ≡ u)
    later q = let below = q.1 in (suc q.0, omega (arith, below), q.2, q.3)

    go : (b : Bool) → p e ≡ b → ((j : ℕ) → j < length (map h (filter p es)) → get_or (map h (filter p es)) j u ≡ u → (i : ℕ) × (i < length es) × (p (get_or es i no_entry) ≡ true) × (h (get_or es i no_entry) ≡ u))
        → (k : ℕ) → k < length (map h (cond b (e ∷ filter p es) (filter p es))) → get_or (map h (cond b (e ∷ filter p es) (filter p es))) k u ≡ u
        → (i : ℕ) × (i < length (e ∷ es)) × (p (get_or (e ∷ es) i no_entry) ≡ true) × (h (get_or (e ∷ es) i no_entry) ≡ u)
    go true here rest zero lt is = (0, omega arith, here, is)
    go true here rest (suc k) lt is = later (rest k (omega (arith, lt)) is)
    go false here rest k lt is = later (rest k lt is)

-- the place of an element in what a test keeps, and in a map of that
kept_place : (c : ℕ) (ws : List Waiter) (j : ℕ) (w : Waiter) → j < length ws → get_or ws j w ≡ w → w.context ≡ c → (k : ℕ) × (k < length (map unheld (filter (λ v. v.context == c) ws))) × (get_or (map unheld (filter (λ v. v.context == c) ws)) k (unheld w) ≡ unheld w)
kept_place c [] j w lt is here = absurd (omega arith)
kept_place c (x ∷ ws) zero w lt is here =
    let kept : (x.context == c) ≡ true = eq-eqb x.context c (ap (λ (v : Waiter). v.context) is ∙ here) in
    rw kept (0, omega arith, ap unheld is)
kept_place c (x ∷ ws) (suc j) w lt is here = go (x.context == c) (kept_place c ws j w (omega (arith, lt)) is here)
  where
    go : (b : Bool) → (k : ℕ) × (k < length (map unheld (filter (λ v. v.context == c) ws))) × (get_or (map unheld (filter (λ v. v.context == c) ws)) k (unheld w) ≡ unheld w)
        → (k : ℕ) × (k < length (map unheld (cond b (x ∷ filter (λ v. v.context == c) ws) (filter (λ v. v.context == c) ws)))) × (get_or (map unheld (cond b (x ∷ filter (λ v. v.context == c) ws) (filter (λ v. v.context == c) ws))) k (unheld w) ≡ unheld w)
    go true q = let below = q.1 in (suc q.0, omega (arith, below), q.2)
    go false q = q

-- and back
waits_at : (c : ℕ) (ws : List Waiter) (u : Waiter) (k : ℕ) → k < length (map unheld (filter (λ v. v.context == c) ws)) → get_or (map unheld (filter (λ v. v.context == c) ws)) k u ≡ u → (w : Waiter) × Contains ws w × (unheld w ≡ u)
waits_at c [] u k lt is = absurd (omega arith)
waits_at c (x ∷ ws) u k lt is = go (x.context == c) (λ j below here. waits_at c ws u j below here) k lt is
  where
    later : (w : Waiter) × Contains ws w × (unheld w ≡ u) → (w : Waiter) × Contains (x ∷ ws) w × (unheld w ≡ u)
    later q = let from = q.1 in let below = from.1 in (q.0, (suc from.0, omega (arith, below), from.2), q.2)

    go : (b : Bool) → ((j : ℕ) → j < length (map unheld (filter (λ v. v.context == c) ws)) → get_or (map unheld (filter (λ v. v.context == c) ws)) j u ≡ u → (w : Waiter) × Contains ws w × (unheld w ≡ u))
        → (k : ℕ) → k < length (map unheld (cond b (x ∷ filter (λ v. v.context == c) ws) (filter (λ v. v.context == c) ws))) → get_or (map unheld (cond b (x ∷ filter (λ v. v.context == c) ws) (filter (λ v. v.context == c) ws))) k u ≡ u
        → (w : Waiter) × Contains (x ∷ ws) w × (unheld w ≡ u)
    go true rest zero lt is = (x, (0, omega arith, refl), is)
    go true rest (suc k) lt is = later (rest k (omega (arith, lt)) is)
    go false rest k lt is = later (rest k lt is)

-- a queued entry's place in what waits
entry_waits : (h : Entry → Waiter) (p : Entry → Bool) (es : List Entry) (i : ℕ) → i < length es → p (get_or es i no_entry) ≡ true → (k : ℕ) × (k < length (map h (filter p es))) × (get_or (map h (filter p es)) k (h (get_or es i no_entry)) ≡ h (get_or es i no_entry))
entry_waits h p [] i lt is = absurd (omega arith)
entry_waits h p (e ∷ es) zero lt is = rw is (0, omega arith, refl)
entry_waits h p (e ∷ es) (suc i) lt is = go (p e) (entry_waits h p es i (omega (arith, lt)) is)
  where
    u : Waiter
    u = h (get_or es i no_entry)

    go : (b : Bool) → (k : ℕ) × (k < length (map h (filter p es))) × (get_or (map h (filter p es)) k u ≡ u)
        → (k : ℕ) × (k < length (map h (cond b (e ∷ filter p es) (filter p es)))) × (get_or (map h (cond b (e ∷ filter p es) (filter p es))) k u ≡ u)
    go true q = let below = q.1 in (suc q.0, omega (arith, below), q.2)
    go false q = q

-- ---- ready or not

waits_none : (b : Bool) → (waits_of b ≡ []) → b ≡ true
waits_none true h = refl
waits_none false h = absurd cc

-- which entries have to wait, by the context, the place and the values of the sources
abbrev pub Waits : Type 0
Waits = Context → ℕ → Option (ℕ × ℕ) → Bool

-- each queued entry of a context is held exactly where it has to wait so
abbrev pub AreHeldBy : Waits → Flow → ℕ → Track → Type 0
AreHeldBy waits f c t = (i : ℕ) → i < t.renamed → (entry_at t.context i).stage ≡ Queued → IsMarked f c (entry_at t.context i).stamp (waits t.context i (sources_at (lane f c) i))

-- it has the values of its sources, and doesn't have to wait
abbrev pub has_values : Waits → Context → ℕ → Bool
has_values waits x i = is_some (both (first_value x i) (second_value x i)) && not (waits x i (both (first_value x i) (second_value x i)))

-- and is queued
abbrev pub is_ready_by : Waits → Context → ℕ → Bool
is_ready_by waits x i = nat_lt i (length x.flight) && is_queued (entry_at x i).stage && has_values waits x i

abbrev pub IsReadyBy : Waits → View → Place → Type 0
IsReadyBy waits v p = (p.context < 8) × (is_ready_by waits (context_in v p.context) p.place ≡ true)

-- a waiter stands for the entry at a place
pub record StandsFor (waits : Waits) (f : Flow) (c : ℕ) (t : Track) (w : Waiter) (i : ℕ) : Type 0 where
  pub within : i < length t.context.flight
  pub stage : (entry_at t.context i).stage ≡ Queued
  pub is : unheld w ≡ waiter_for c t.context.flight (entry_at t.context i)
  pub held : w.held ≡ waits t.context i (sources_at (lane f c) i)

module _ (waits : Waits) {start : State} {stamp reorder : ℕ} {f : Flow} (c : ℕ) {t : Track} (core : IsCore start stamp reorder f [] c t) (marks : AreHeldBy waits f c t) where
  held_is : (w : Waiter) → Contains f.waiters w → (i : ℕ) → i < length t.context.flight → (entry_at t.context i).stage ≡ Queued → unheld w ≡ waiter_for c t.context.flight (entry_at t.context i) → w.held ≡ waits t.context i (sources_at (lane f c) i)
  held_is w from i lt stage is =
      let named : is_waiter c (entry_at t.context i).stamp w ≡ true = rw (eq-eqb w.context c (ap (λ (v : Waiter). v.context) is), eq-eqb w.stamp (entry_at t.context i).stamp (ap (λ (v : Waiter). v.stamp) is)) refl in
      ap (λ (v : Waiter). v.held) (sym from.2) ∙ marks i (queued_renamed core i lt stage) stage from.0 w from.1 (ap (is_waiter c (entry_at t.context i).stamp) from.2 ∙ named)

  -- what waits of a context stands for one of its queued entries
  pub stands : (w : Waiter) → Contains f.waiters w → w.context ≡ c → (i : ℕ) × StandsFor waits f c t w i
  stands w from here =
      let kept = kept_place c f.waiters from.0 w from.1 from.2 here in
      let moved : (k : ℕ) × (k < length (waiters_of [] c t.context.flight)) × (get_or (waiters_of [] c t.context.flight) k (unheld w) ≡ unheld w) = subst (λ (ws : List Waiter). (k : ℕ) × (k < length ws) × (get_or ws k (unheld w) ≡ unheld w)) core.waiting kept in
      let p = waiter_place (waiter_for c t.context.flight) (is_waiting [] c) t.context.flight (unheld w) moved.0 moved.1 moved.2 in
      let stage : (entry_at t.context p.0).stage ≡ Queued = queued_stage (entry_at t.context p.0).stage ((and_parts (is_queued (entry_at t.context p.0).stage) true p.2).0) in
      let is : unheld w ≡ waiter_for c t.context.flight (entry_at t.context p.0) = sym p.3 in
      (p.0, record { within = p.1; stage = stage; is = is; held = held_is w from p.0 p.1 stage is })

  -- and each queued entry has one
  pub stood_for : (i : ℕ) → i < length t.context.flight → (entry_at t.context i).stage ≡ Queued → (w : Waiter) × Contains f.waiters w × StandsFor waits f c t w i
  stood_for i lt stage =
      let u : Waiter = waiter_for c t.context.flight (entry_at t.context i) in
      let there = entry_waits (waiter_for c t.context.flight) (is_waiting [] c) t.context.flight i lt (rw stage refl) in
      let moved : (k : ℕ) × (k < length (waiting_of f c)) × (get_or (waiting_of f c) k u ≡ u) = subst (λ (ws : List Waiter). (k : ℕ) × (k < length ws) × (get_or ws k u ≡ u)) (sym core.waiting) there in
      let q = waits_at c f.waiters u moved.0 moved.1 moved.2 in
      (q.0, q.1, record { within = lt; stage = stage; is = q.2; held = held_is q.0 q.1 i lt stage q.2 })

  -- the values of its sources are there where the queue says so
  supplied : (w : Waiter) (i : ℕ) → StandsFor waits f c t w i → is_supplied (known (lane f w.context).registers) (lane f w.context).nodes w.stamp ≡ is_some (both (first_value t.context i) (second_value t.context i))
  supplied w i s =
      let renamed = queued_renamed core i s.within s.stage in
      ap (λ (v : Waiter). is_supplied (known (lane f v.context).registers) (lane f v.context).nodes v.stamp) s.is ∙ supplied_is core i renamed ∙ ap is_some (sources_are core i renamed)

  held_of : (w : Waiter) (i : ℕ) → StandsFor waits f c t w i → w.held ≡ waits t.context i (both (first_value t.context i) (second_value t.context i))
  held_of w i s = s.held ∙ ap (waits t.context i) (sources_are core i (queued_renamed core i s.within s.stage))

  -- it is ready in the queue where its entry is ready
  pub ready_place : (w : Waiter) (i : ℕ) → StandsFor waits f c t w i → IsReady (queued_waiter f.lanes w) → is_ready_by waits t.context i ≡ true
  ready_place w i s ready =
      let some = sym (supplied w i s) ∙ waits_none (is_supplied (known (lane f w.context).registers) (lane f w.context).nodes w.stamp) ready.0 in
      let free = sym (held_of w i s) ∙ ready.1 in
      rw (lt-ltb i (length t.context.flight) s.within, s.stage, some, free) refl

  pub place_ready : (w : Waiter) (i : ℕ) → StandsFor waits f c t w i → is_ready_by waits t.context i ≡ true → IsReady (queued_waiter f.lanes w)
  place_ready w i s ready =
      let values = both (first_value t.context i) (second_value t.context i) in
      let on = (and_parts (nat_lt i (length t.context.flight) && is_queued (entry_at t.context i).stage) (is_some values && not (waits t.context i values)) ready).1 in
      let h = and_parts (is_some values) (not (waits t.context i values)) on in
      (ap waits_of (supplied w i s ∙ h.0), held_of w i s ∙ not-true (waits t.context i values) h.1)

-- ---- the queue and the flights of a view

-- an element that a test keeps is among what it keeps
kept_in : (q : Waiting → Bool) (xs : List Waiting) (j : ℕ) (e : Waiting) → j < length xs → get_or xs j e ≡ e → q e ≡ true → Contains (filter q xs) e
kept_in q [] j e lt is kept = absurd (omega arith)
kept_in q (x ∷ xs) zero e lt is kept = rw (ap q is ∙ kept) (0, omega arith, is)
kept_in q (x ∷ xs) (suc j) e lt is kept = go (q x) (kept_in q xs j e (omega (arith, lt)) is kept)
  where
    go : (b : Bool) → Contains (filter q xs) e → Contains (cond b (x ∷ filter q xs) (filter q xs)) e
    go true h = let below = h.1 in (suc h.0, omega (arith, below), h.2)
    go false h = h

-- the order of two that an order sees
abbrev AreInOrder : (QueueView → ℕ) → QueueView → QueueView → Type 0
AreInOrder key a b = (key a ≤ key b) × (key a ≡ key b → a.stamp ≤ b.stamp)

module _ (waits : Waits) {start : ℕ → State} {stamp reorder : ℕ} (f : Flow) (v : View) (tracks : ℕ → Track) (cores : (c : ℕ) → c < 8 → IsCore (start c) stamp reorder f [] c (tracks c)) (marks : (c : ℕ) → c < 8 → AreHeldBy waits f c (tracks c))
    (all : All (λ w. w.context < 8) f.waiters) (shown : (c : ℕ) → c < 8 → (tracks c).context ≡ context_in v c) where
  -- what an order sees of a waiter is what it sees of the place that it stands for
  view_is : (c : ℕ) → c < 8 → (w : Waiter) (i : ℕ) → StandsFor waits f c (tracks c) w i → queue_view v (record { context = c; place = i }) ≡ view_of (queued_waiter f.lanes w)
  view_is c lt w i s =
      let t = tracks c in
      let seen : Waiter → QueueView = λ u. record { stamp = u.stamp; context = u.context; guessed = u.guessed; speculative = u.speculative } in
      sym (ap seen s.is ∙ ap (λ b. let q : QueueView = record (seen (waiter_for c t.context.flight (entry_at t.context i))) { speculative = b } in q) (behind_at 0 t.context.flight i (cores c lt).live.flight.growing s.within)
      ∙ ap (λ (x : Context). let q : QueueView = record { stamp = (entry_at x i).stamp; context = c; guessed = is_guessed (entry_at x i).operation; speculative = list_any is_open_guess (take i x.flight) } in q) (shown c lt))

  -- an entry of the queue that is ready, and its place
  record IsAt (e : Waiting) (p : Place) : Type 0 where
    view : queue_view v p ≡ view_of e
    ready : IsReadyBy waits v p

  place_at : (e : Waiting) → Contains (queued f) e → IsReady e → (p : Place) × IsAt e p
  place_at e from ready =
      let w = get_or f.waiters from.0 no_waiter in
      let within : from.0 < length f.waiters = omega (arith, from.1, length-map f.waiters (queued_waiter f.lanes)) in
      let is : e ≡ queued_waiter f.lanes w = sym from.2 ∙ get_or-map (queued_waiter f.lanes) f.waiters from.0 no_waiter e within in
      let lt : w.context < 8 = all from.0 no_waiter within in
      let there : Contains f.waiters w = (from.0, within, get_or_default f.waiters from.0 w no_waiter within) in
      let s = stands waits w.context (cores w.context lt) (marks w.context lt) w there refl in (
        record { context = w.context; place = s.0 },
        record {
          view = view_is w.context lt w s.0 s.1 ∙ ap view_of (sym is);
          ready = (lt, ap (λ x. is_ready_by waits x s.0) (sym (shown w.context lt)) ∙ ready_place waits w.context (cores w.context lt) (marks w.context lt) w s.0 s.1 (subst IsReady is ready));
        },
      )

  entry_of_place : (p : Place) → IsReadyBy waits v p → (e : Waiting) × Contains (queued f) e × IsReady e × (queue_view v p ≡ view_of e)
  entry_of_place p ready =
      let t = tracks p.context in
      let lt = ready.0 in
      let here : is_ready_by waits t.context p.place ≡ true = ap (λ x. is_ready_by waits x p.place) (shown p.context lt) ∙ ready.1 in
      let parts = and_parts (nat_lt p.place (length t.context.flight)) (is_queued (entry_at t.context p.place).stage) (and_parts (nat_lt p.place (length t.context.flight) && is_queued (entry_at t.context p.place).stage) (has_values waits t.context p.place) here).0 in
      let q = stood_for waits p.context (cores p.context lt) (marks p.context lt) p.place (ltb-true p.place (length t.context.flight) parts.0) (queued_stage (entry_at t.context p.place).stage parts.1) in
      let w = q.0 in
      let from = q.1 in
      let below = from.1 in
      let e : Waiting = queued_waiter f.lanes w in (
        e,
        (from.0, omega (arith, below, length-map f.waiters (queued_waiter f.lanes)), get_or-map (queued_waiter f.lanes) f.waiters from.0 w e below ∙ ap (queued_waiter f.lanes) from.2),
        place_ready waits p.context (cores p.context lt) (marks p.context lt) w p.place q.2 here,
        view_is p.context lt w p.place q.2,
      )

  -- entries, and their places, one by one
  abbrev Match : List Waiting → List Place → Type 0
  Match [] [] = Unit {0}
  Match [] (p ∷ ps) = ⊥
  Match (e ∷ es) [] = ⊥
  Match (e ∷ es) (p ∷ ps) = IsAt e p × Match es ps

  places : (es : List Waiting) → All (Contains (queued f)) es → All IsReady es → (ps : List Place) × Match es ps
  places [] from ready = ([], tt)
  places (e ∷ es) from ready =
      let one = place_at e (All-head (Contains (queued f)) e es from) (All-head IsReady e es ready) in
      let more = places es (All-tail (Contains (queued f)) e es from) (All-tail IsReady e es ready) in
      (one.0 ∷ more.0, (one.1, more.1))

  match_length : (es : List Waiting) (ps : List Place) → Match es ps → length ps ≡ length es
  match_length [] [] h = refl
  match_length [] (p ∷ ps) h = absurd h
  match_length (e ∷ es) [] h = absurd h
  match_length (e ∷ es) (p ∷ ps) h = ap suc (match_length es ps h.1)

  match_at : (es : List Waiting) (ps : List Place) → Match es ps → (j : ℕ) (d : Waiting) (q : Place) → j < length es → IsAt (get_or es j d) (get_or ps j q)
  match_at [] [] h j d q lt = absurd (omega arith)
  match_at [] (p ∷ ps) h j d q lt = absurd h
  match_at (e ∷ es) [] h j d q lt = absurd h
  match_at (e ∷ es) (p ∷ ps) h zero d q lt = h.0
  match_at (e ∷ es) (p ∷ ps) h (suc j) d q lt = match_at es ps h.1 j d q (omega (arith, lt))

  abbrev named : QueueView → EntryId
  named q = record { context = q.context; stamp = q.stamp }

  match_names : (es : List Waiting) (ps : List Place) → Match es ps → map name_of es ≡ map (id_in v) ps
  match_names [] [] h = refl
  match_names [] (p ∷ ps) h = absurd h
  match_names (e ∷ es) [] h = absurd h
  match_names (e ∷ es) (p ∷ ps) h = ap (λ n. n ∷ map name_of es) (sym (ap named h.0.view)) ∙ ap (λ ns. id_in v p ∷ ns) (match_names es ps h.1)

  -- one place has a context and a stamp
  same_name : (p q : Place) → IsReadyBy waits v p → IsReadyBy waits v q → p.context ≡ q.context → (entry_in v p).stamp ≡ (entry_in v q).stamp → q ≡ p
  same_name p q ready other context stamps =
      let growing : IsGrowing 0 (context_in v p.context).flight = subst (λ (x : Context). IsGrowing 0 x.flight) (shown p.context ready.0) (cores p.context ready.0).live.flight.growing in
      let place : p.place ≡ q.place = same_place 0 (context_in v p.context).flight p.place q.place growing (ready_within p ready) (subst (λ c. q.place < length (context_in v c).flight) (sym context) (ready_within q other))
      (stamps ∙ ap (λ c. (entry_at (context_in v c) q.place).stamp) (sym context)) in
      parts q.context q.place p.context p.place (sym context) (sym place)
    where
      parts : (a b c d : ℕ) → a ≡ c → b ≡ d → ◌≡◌ {A = Place} (record { context = a; place = b }) (record { context = c; place = d })
      parts a b c d p q = rw (p, q) refl

      ready_within : (r : Place) → IsReadyBy waits v r → r.place < length (context_in v r.context).flight
      ready_within r h =
          ltb-true r.place (length (context_in v r.context).flight) (and_parts (nat_lt r.place (length (context_in v r.context).flight)) (is_queued (entry_in v r).stage)
          (and_parts (nat_lt r.place (length (context_in v r.context).flight) && is_queued (entry_in v r).stage) (has_values waits (context_in v r.context) r.place) h.1).0).0

  -- what is among the names is among the places
  among_places : (p : Place) (e : Waiting) → IsReadyBy waits v p → queue_view v p ≡ view_of e → (es : List Waiting) (ps : List Place) → Match es ps → is_among (map name_of es) e ≡ true → Contains ps p
  among_places p e ready view [] ps h is = absurd (true≢false (sym is))
  among_places p e ready view (d ∷ es) [] h is = absurd h
  among_places p e ready view (d ∷ es) (q ∷ ps) h is = go (is_named d.context d.stamp e) refl is (λ later. among_places p e ready view es ps h.1 later)
    where
      go : (b : Bool) → is_named d.context d.stamp e ≡ b → (b || is_among (map name_of es) e) ≡ true → (is_among (map name_of es) e ≡ true → Contains ps p) → Contains (q ∷ ps) p
      go true here some rest =
          let same = and_parts (e.context == d.context) (e.stamp == d.stamp) here in
          let context : p.context ≡ q.context = ap (λ (a : QueueView). a.context) view ∙ eqb-true e.context d.context same.0 ∙ sym (ap (λ (a : QueueView). a.context) h.0.view) in
          let stamps : (entry_in v p).stamp ≡ (entry_in v q).stamp = ap (λ (a : QueueView). a.stamp) view ∙ eqb-true e.stamp d.stamp same.1 ∙ sym (ap (λ (a : QueueView). a.stamp) h.0.view) in
          (0, omega arith, same_name p q ready h.0.ready context stamps)
      go false here some rest = let found = rest some in let below = found.1 in (suc found.0, omega (arith, below), found.2)

  pub is_chosen_by : (key : QueueView → ℕ) (width : ℕ) (rest : List Waiting) (names : List EntryId) → IsSelected (λ e. key (view_of e)) width (queued f) rest names → IsChosenOf (IsReadyBy waits v) key width v names
  is_chosen_by key width rest names s =
      let ps = places s.chosen s.queued s.ready in
      record { chosen = ps.0; names_are = s.names ∙ match_names s.chosen ps.0 ps.1; choice = choice ps.0 ps.1 }
    where
      -- a ready place that isn't chosen stays in the queue
      left : (ps : List Place) → Match s.chosen ps → (p : Place) → IsReadyBy waits v p → ¬ Contains ps p → (e : Waiting) × Contains rest e × IsReady e × (queue_view v p ≡ view_of e)
      left ps h p ready out =
          let q = entry_of_place p ready in
          let from = q.1 in
          (q.0, subst (λ xs. Contains xs q.0) (sym s.others) (kept_in (λ e. not (is_among names e)) (queued f) from.0 q.0 from.1 from.2 (stays q.0 q.3)), q.2, q.3)
        where
          stays : (e : Waiting) → queue_view v p ≡ view_of e → not (is_among names e) ≡ true
          stays e view = by_among (is_among names e) refl
            where
              by_among : (t : Bool) → is_among names e ≡ t → not t ≡ true
              by_among true is = absurd (out (among_places p e ready view s.chosen ps h (ap (λ ns. is_among ns e) (sym s.names) ∙ is)))
              by_among false is = refl

      choice : (ps : List Place) → Match s.chosen ps → IsChoiceOf (IsReadyBy waits v) key width v ps
      choice ps h = record {
        ready = λ j d lt. (match_at s.chosen ps h j no_waiting d (omega (arith, lt, count))).ready;
        once = λ i j d lt within. apart (get_or s.chosen i no_waiting) (get_or s.chosen j no_waiting) (get_or ps i d) (get_or ps j d) (match_at s.chosen ps h i no_waiting d (omega (arith, lt, within, count))).view (match_at s.chosen ps h j no_waiting d (omega (arith, within, count))).view (s.once i j no_waiting lt (omega (arith, within, count)));
        in_order = λ i j d lt within. ordered (get_or s.chosen i no_waiting) (get_or s.chosen j no_waiting) (get_or ps i d) (get_or ps j d) (match_at s.chosen ps h i no_waiting d (omega (arith, lt, within, count))).view (match_at s.chosen ps h j no_waiting d (omega (arith, within, count))).view (s.in_order i j no_waiting lt (omega (arith, within, count)));
        most = omega (arith, s.at_most, count);
        used_up = λ p ready out. elim (cases_lt (length s.chosen) width) [
          | inl fewer ↦ (let q = left ps h p ready out in let from = q.1 in absurd (s.exhausted fewer from.0 q.0 from.1 (subst IsReady (sym from.2) q.2)))
          | inr full ↦ omega (arith, full, s.at_most, count)
        ];
        first = λ p ready out j d lt.
            let q = left ps h p ready out in
            let from = q.1 in
            ordered (get_or s.chosen j no_waiting) q.0 (get_or ps j d) p (match_at s.chosen ps h j no_waiting d (omega (arith, lt, count))).view q.3 (subst (IsInOrder (λ e. key (view_of e)) (get_or s.chosen j no_waiting)) from.2 (s.first j no_waiting (omega (arith, lt, count)) from.0 q.0 from.1 (subst IsReady (sym from.2) q.2)));
      }
        where
          count : length ps ≡ length s.chosen
          count = match_length s.chosen ps h

          ordered : (e g : Waiting) (p q : Place) → queue_view v p ≡ view_of e → queue_view v q ≡ view_of g → IsInOrder (λ x. key (view_of x)) e g → IsNotAfter key v p q
          ordered e g p q a b h = subst (λ u. AreInOrder key u (queue_view v q)) (sym a) (subst (λ u. AreInOrder key (view_of e) u) (sym b) h)

          apart : (e g : Waiting) (p q : Place) → queue_view v p ≡ view_of e → queue_view v q ≡ view_of g → AreDistinct e g → is_id p.context (entry_in v p).stamp (id_in v q) ≡ false
          apart e g p q a b h =
              ap (λ (u : QueueView). (q.context == u.context) && ((entry_in v q).stamp == u.stamp)) a ∙ ap (λ (u : QueueView). (u.context == e.context) && (u.stamp == e.stamp)) b
              ∙ ap (λ t. t && (g.stamp == e.stamp)) (eqb-flip g.context e.context) ∙ ap (λ t. (e.context == g.context) && t) (eqb-flip g.stamp e.stamp) ∙ h

-- ---- what has to wait, and what needn't

-- a choice among the same places
choice_among : {R S : Place → Type 0} {key : QueueView → ℕ} {width : ℕ} {v : View} {names : List EntryId} → ((p : Place) → R p → S p) → ((p : Place) → S p → R p) → IsChosenOf R key width v names → IsChosenOf S key width v names
choice_among to from h = record {
  chosen = h.chosen;
  names_are = h.names_are;
  choice = record {
    ready = λ j d lt. to (get_or h.chosen j d) (h.choice.ready j d lt);
    once = h.choice.once;
    in_order = h.choice.in_order;
    most = h.choice.most;
    used_up = λ p is out. h.choice.used_up p (from p is) out;
    first = λ p is out. h.choice.first p (from p is) out;
  };
}

-- what has to wait as its loads say is what isn't ready
asked_values : (x : Context) (i : ℕ) (a b : Option ℕ) → (is_some (both a b) && not (must_wait x i (both a b))) ≡ is_ready_on x i a b
asked_values x i None b = refl
asked_values x i (Some a) None = refl
asked_values x i (Some a) (Some b) = twice (may_issue_at x i a b)
  where
    twice : (t : Bool) → not (not t) ≡ t
    twice true = refl
    twice false = refl

asked_ready : (x : Context) (i : ℕ) → is_ready_by must_wait x i ≡ is_ready x i
asked_ready x i = ap (λ b. nat_lt i (length x.flight) && is_queued (entry_at x i).stage && b) (asked_values x i (first_value x i) (second_value x i))

-- nothing has to wait
abbrev pub no_wait : Waits
no_wait x i values = false

all_values : (a b : Option ℕ) → (is_some (both a b) && true) ≡ (is_some a && is_some b)
all_values None b = refl
all_values (Some a) None = refl
all_values (Some a) (Some b) = refl

unasked_supplied : (x : Context) (i : ℕ) → is_ready_by no_wait x i ≡ is_supplied_at x i
unasked_supplied x i = ap (λ b. nat_lt i (length x.flight) && is_queued (entry_at x i).stage && b) (all_values (first_value x i) (second_value x i))

pub chosen_asked : {key : QueueView → ℕ} {width : ℕ} {v : View} {names : List EntryId} → IsChosenOf (IsReadyBy must_wait v) key width v names → IsChosen key width v names
chosen_asked {v = v} h = choice_among
    (λ p is. (is.0, sym (asked_ready (context_in v p.context) p.place) ∙ is.1))
    (λ p is. (is.0, asked_ready (context_in v p.context) p.place ∙ is.1)) h

pub chosen_unasked : {key : QueueView → ℕ} {width : ℕ} {v : View} {names : List EntryId} → IsChosenOf (IsReadyBy no_wait v) key width v names → IsChosenOf (IsSuppliedPlace v) key width v names
chosen_unasked {v = v} h = choice_among
    (λ p is. (is.0, sym (unasked_supplied (context_in v p.context) p.place) ∙ is.1))
    (λ p is. (is.0, unasked_supplied (context_in v p.context) p.place ∙ is.1)) h
