-- Some of what was selected unasked has issued, the next has to wait, and the rest of the width is selected anew, asked first:
-- what issued and what is selected now are together what would have been selected, had each been asked before.
use Rattle.std.proofs.Common.{◌≡◌, ℕ, zero, suc, ◌+◌, ◌<◌, ◌≤◌, Bool, true, false, List, [], ◌∷◌, ◌++◌, length, take, map, get_or, Some, None, refl, sym, ap, ◌∙◌, subst, arith, inl, inr}
use Rattle.std.specs.Prelude.{◌==◌, ◌&&◌, if◌then◌else◌, find, All, AllPairs, Contains}
use Rattle.std.proofs.lemmas.Bool.{cases_lt, cases_Bool, eqb-true, eq-eqb, and_parts, and_from, true≢false}
use Rattle.std.proofs.lemmas.List.{length-append, length-take-le, map-append, take-map, take_at, length-map, get_or-take, get_or_append_left, get_or_default}
use Rattle.std.proofs.lemmas.List.Elements.{All-head, All-tail, All-append, All-take, All-from_get_or, All-weaker, Contains-append_left, Contains-append_right}
use Rattle.std.proofs.lemmas.List.Kept.{AllPairs-cons}
use Rattle.word_mask.proofs.Lists.{AllPairs-head, AllPairs-tail}
use Rattle.issue_queue.specs.declared.entry.QueueView.{QueueView}
use Rattle.issue_queue.proofs.Lists.{map_agree_on}
use Rattle.data_tags.specs.declared.delay.Kind.{Kind}
use Rattle.data_tags.specs.declared.delay.Lag.{Lag}
use Rattle.core_view.specs.declared.note.EntryId.{EntryId}
use Rattle.core_view.specs.declared.note.Issue.{Issue}
use Rattle.core_view.specs.Flight.{IsGrowing}
use Rattle.core_view.specs.Events.{with_flight}
use Rattle.core_view.specs.View.{View}
use Rattle.lawful_cycle.specs.Views.{context_in, ChangesEach, is_id}
use Rattle.lawful_cycle.specs.Issue.{Place, entry_in, id_in, queue_view, is_ready, IsReadyIn, IsNotAfter, issue_of, issued_from, no_issue, no_place, HasLag}
use Rattle.lawful_cycle.proofs.Laws.{among_or_not, same_or_not}
use Rattle.core_back.specs.Issued.{IsHeadWaiting}
use Rattle.core_back.specs.Selected.{IsSuppliedPlace, IsChosen}
use Rattle.core_back.specs.Machine.{Machine, context_at}
use Rattle.core_back.specs.Issuing.{HaveIssued, IsIssuing, IsIssuingAsked}
use Rattle.core_context.proofs.Laws.{eqb-flip}
use Rattle.core_back.proofs.IssuedFlights.{IsInFlight, supplied_in_flight, ready_place_supplied, ready_before, ready_after, same_id, same_view, same_order}
use Rattle.core_back.proofs.IssueViews.{issued_count, issue_named, head_place, place_is, chosen_in_flight}

-- ---- lists

find_none : {X : Type 0} (test : X → Bool) (xs : List X) (d : X) → ((j : ℕ) → j < length xs → test (get_or xs j d) ≡ false) → find test xs ≡ None
find_none test [] d h = refl
find_none {X} test (x ∷ xs) d h = rw (h 0 (omega arith)) (find_none test xs d (λ j lt. h (suc j) (omega (arith, lt))))

none_found : {X : Type 0} (test : X → Bool) (xs : List X) (d : X) → find test xs ≡ None → (j : ℕ) → j < length xs → test (get_or xs j d) ≡ false
none_found test [] d h j lt = absurd (omega (arith, lt))
none_found {X} test (x ∷ xs) d h j lt = go (test x) refl h (λ rest k below. none_found test xs d rest k below) j lt
  where
    go : (b : Bool) → test x ≡ b → (if b then Some x else find test xs) ≡ None → (find test xs ≡ None → (k : ℕ) → k < length xs → test (get_or xs k d) ≡ false) → (k : ℕ) → k < length (x ∷ xs) → test (get_or (x ∷ xs) k d) ≡ false
    go true is h rest k lt = absurd (let bad : Some x ≡ None = h in cc)
    go false is h rest zero lt = is
    go false is h rest (suc k) lt = rest h k (omega (arith, lt))

-- pairs of the first of a list, of another list, and of the two
pairs_taken : {X : Type 0} (R : X → X → Type 0) (n : ℕ) (xs ys : List X) → AllPairs R xs → AllPairs R ys → All (λ x. All (R x) ys) (take n xs) → AllPairs R (take n xs ++ ys)
pairs_taken R zero xs ys a b cross = b
pairs_taken R (suc n) [] ys a b cross = b
pairs_taken R (suc n) (x ∷ xs) ys a b cross =
    AllPairs-cons R x (take n xs ++ ys) (All-append (R x) (take n xs) ys (All-take (R x) n xs (AllPairs-head R x xs a)) (All-head (λ z. All (R z) ys) x (take n xs) cross))
    (pairs_taken R n xs ys (AllPairs-tail R x xs a) b (All-tail (λ z. All (R z) ys) x (take n xs) cross))

-- ---- places

-- a name is its own, and of two the one is the other's where the other is its own
own_id : (v : View) (p : Place) → is_id p.context (entry_in v p).stamp (id_in v p) ≡ true
own_id v p = and_from (p.context == p.context) ((entry_in v p).stamp == (entry_in v p).stamp) (eq-eqb p.context p.context refl) (eq-eqb (entry_in v p).stamp (entry_in v p).stamp refl)

other_id : (v : View) (p q : Place) → is_id p.context (entry_in v p).stamp (id_in v q) ≡ false → is_id q.context (entry_in v q).stamp (id_in v p) ≡ false
other_id v p q h = flip (eqb-flip p.context q.context) (eqb-flip (entry_in v p).stamp (entry_in v q).stamp) ∙ h
  where
    flip : {a b c d : Bool} → a ≡ b → c ≡ d → (a && c) ≡ (b && d)
    flip p q = rw (p, q) refl

-- ---- what has issued, and what hasn't

module _ (delays : ℕ → Kind → ℕ → Lag → Bool) (chosen : List Place) (m n : Machine) (issues : List Issue) (growing : (c : ℕ) → c < 8 → IsGrowing 0 (context_at m c).flight) (inside : All (IsInFlight m.view) chosen) (h : HaveIssued delays chosen m n issues) where
  -- what has another name than each that issued hasn't issued
  unissued_apart : (p : Place) → ((j : ℕ) → j < length issues → is_id p.context (entry_in m.view p).stamp (id_in m.view (get_or chosen j no_place)) ≡ false) → issue_of p.context (entry_in m.view p) issues ≡ None
  unissued_apart p apart = find_none (λ (k : Issue). is_id p.context (entry_in m.view p).stamp k.entry) issues no_issue (λ j lt. ap (is_id p.context (entry_in m.view p).stamp) (issue_named delays chosen m n issues h j lt).1 ∙ apart j lt)

  -- and the other way round
  apart_unissued : (p : Place) → issue_of p.context (entry_in m.view p) issues ≡ None → (j : ℕ) → j < length issues → is_id p.context (entry_in m.view p).stamp (id_in m.view (get_or chosen j no_place)) ≡ false
  apart_unissued p none j lt = ap (is_id p.context (entry_in m.view p).stamp) (sym (issue_named delays chosen m n issues h j lt).1) ∙ none_found (λ (k : Issue). is_id p.context (entry_in m.view p).stamp k.entry) issues no_issue none j lt

  -- what isn't among the first that were chosen hasn't issued
  unissued_out : (p : Place) → p.context < 8 → IsInFlight m.view p → ¬ Contains (take (length issues) chosen) p → issue_of p.context (entry_in m.view p) issues ≡ None
  unissued_out p lt within out = unissued_apart p apart
    where
      among : (j : ℕ) → j < length issues → is_id p.context (entry_in m.view p).stamp (id_in m.view (get_or chosen j no_place)) ≡ true → Contains (take (length issues) chosen) p
      among j lj own =
          let q = get_or chosen j no_place in
          let lc = (issue_named delays chosen m n issues h j lj).0 in
          let parts = and_parts (q.context == p.context) ((entry_in m.view q).stamp == (entry_in m.view p).stamp) own in
          let is : q ≡ p = place_is m.view q p.context p.place (id_in m.view q) (growing p.context lt) refl (eqb-true q.context p.context parts.0) (inside j no_place lc) within (sym (eqb-true (entry_in m.view q).stamp (entry_in m.view p).stamp parts.1)) in
          let long = length-take-le (length issues) chosen (let count = issued_count delays chosen m n issues h in omega (arith, count)) in
          (j, omega (arith, lj, long), get_or-take (length issues) chosen j p lj ∙ get_or_default chosen j p no_place lc ∙ is)

      apart : (j : ℕ) → j < length issues → is_id p.context (entry_in m.view p).stamp (id_in m.view (get_or chosen j no_place)) ≡ false
      apart j lj = elim (cases_Bool (is_id p.context (entry_in m.view p).stamp (id_in m.view (get_or chosen j no_place)))) [
        | inl own ↦ absurd (out (among j lj own))
        | inr other ↦ other
      ]

-- ---- the rest, chosen anew

module _ (key : QueueView → ℕ) (delays : ℕ → Kind → ℕ → Lag → Bool) (width w : ℕ) (m n u : Machine) (issues : List Issue) (growing : (c : ℕ) → c < 8 → IsGrowing 0 (context_at m c).flight) (h : IsIssuingAsked key delays width m n issues)
    (same : u.view ≡ n.view) (anew : IsChosen key w u.view u.names) (rest : w + length issues ≡ width) where
  abbrev old : List Place
  old = take (length issues) h.chosen

  abbrev new : List Place
  new = anew.chosen

  inside : All (IsInFlight m.view) h.chosen
  inside = All-weaker (IsSuppliedPlace m.view) (IsInFlight m.view) (supplied_in_flight m.view) h.chosen h.supplied

  count : length issues ≤ length h.chosen
  count = let all = issued_count delays h.chosen m n issues h.issued in omega (arith, all)

  old_long : length old ≡ length issues
  old_long = length-take-le (length issues) h.chosen count

  old_at : (j : ℕ) → j < length issues → get_or (old ++ new) j no_place ≡ get_or h.chosen j no_place
  old_at j lt = get_or_append_left old new no_place j (omega (arith, lt, old_long)) ∙ get_or-take (length issues) h.chosen j no_place lt

  changes : ChangesEach (λ c x y. y ≡ with_flight x (issued_from m.view.cycle c issues x 0 x.flight)) m.view u.view
  changes = subst (λ (v : View). ChangesEach (λ c x y. y ≡ with_flight x (issued_from m.view.cycle c issues x 0 x.flight)) m.view v) (sym same) h.issued.contexts

  -- what is chosen now was ready before, and hasn't issued
  new_ready : (p : Place) → IsReadyIn u.view p → (issue_of p.context (entry_in m.view p) issues ≡ None) × IsReadyIn m.view p
  new_ready p = ready_before m.view u.view issues changes.contexts.each h.issued.queued p

  old_view : (p : Place) → IsReadyIn m.view p → issue_of p.context (entry_in m.view p) issues ≡ None → queue_view u.view p ≡ queue_view m.view p
  old_view p ready none = same_view m.view u.view issues changes.contexts.each h.issued.queued p ready.0 (supplied_in_flight m.view p (ready_place_supplied m.view p ready)) none

  old_order : (p q : Place) → IsReadyIn u.view p → IsReadyIn u.view q → IsNotAfter key u.view p q → IsNotAfter key m.view p q
  old_order p q rp rq is =
      let a = new_ready p rp in
      let b = new_ready q rq in
      same_order m.view u.view issues changes.contexts.each h.issued.queued key p q (old_view p a.1 a.0) (old_view q b.1 b.0) is

  old_id : (p : Place) → IsReadyIn u.view p → id_in u.view p ≡ id_in m.view p
  old_id p ready = same_id m.view u.view issues changes.contexts.each h.issued.queued p ready.0

  -- what issued comes no later than what is ready and didn't
  ahead : (q : Place) → IsReadyIn m.view q → issue_of q.context (entry_in m.view q) issues ≡ None → (j : ℕ) → j < length issues → IsNotAfter key m.view (get_or h.chosen j no_place) q
  ahead q ready none j lt = elim (among_or_not same_or_not q h.chosen) [
    | inr out ↦ h.first q ready out j no_place (omega (arith, lt, count))
    | inl among ↦ behind among.0 among.1 (get_or_default h.chosen among.0 no_place q among.1 ∙ among.2)
  ]
    where
      behind : (k : ℕ) → k < length h.chosen → get_or h.chosen k no_place ≡ q → IsNotAfter key m.view (get_or h.chosen j no_place) q
      behind k lk is = elim (cases_lt k (length issues)) [
        | inl issued ↦ absurd (true≢false (sym (own_id m.view q) ∙ ap (λ p. is_id q.context (entry_in m.view q).stamp (id_in m.view p)) (sym is) ∙ apart_unissued delays h.chosen m n issues growing inside h.issued q none k issued))
        | inr later ↦ subst (IsNotAfter key m.view (get_or h.chosen j no_place)) is (h.in_order j k no_place (omega (arith, lt, later)) lk)
      ]

  ahead_all : (q : Place) → IsReadyIn m.view q → issue_of q.context (entry_in m.view q) issues ≡ None → All (λ p. IsNotAfter key m.view p q) old
  ahead_all q ready none = All-from_get_or (λ p. IsNotAfter key m.view p q) old no_place
      (λ j lt. let below : j < length issues = omega (arith, lt, old_long) in subst (λ p. IsNotAfter key m.view p q) (sym (get_or-take (length issues) h.chosen j no_place below)) (ahead q ready none j below))

  -- and has another name
  apart_all : (q : Place) → issue_of q.context (entry_in m.view q) issues ≡ None → All (λ p. is_id p.context (entry_in m.view p).stamp (id_in m.view q) ≡ false) old
  apart_all q none = All-from_get_or (λ p. is_id p.context (entry_in m.view p).stamp (id_in m.view q) ≡ false) old no_place
      (λ j lt. let below : j < length issues = omega (arith, lt, old_long) in
      subst (λ p. is_id p.context (entry_in m.view p).stamp (id_in m.view q) ≡ false) (sym (get_or-take (length issues) h.chosen j no_place below))
      (other_id m.view q (get_or h.chosen j no_place) (apart_unissued delays h.chosen m n issues growing inside h.issued q none j below)))

  old_issued : map (λ (k : Issue). k.entry) issues ≡ map (id_in m.view) old
  old_issued =
      sym (take_at (map (λ (k : Issue). k.entry) issues) n.names (length issues) (length-map issues (λ (k : Issue). k.entry)))
      ∙ ap (λ (ids : List EntryId). take (length issues) ids) h.issued.names ∙ take-map (id_in m.view) (length issues) h.chosen

  new_names : u.names ≡ map (id_in m.view) new
  new_names = anew.names_are ∙ map_agree_on (id_in u.view) (id_in m.view) new (All-weaker (IsReadyIn u.view) (λ p. id_in u.view p ≡ id_in m.view p) old_id new anew.choice.ready)

  issued : HaveIssued delays (old ++ new) m u issues
  issued = record {
    contexts = changes;
    queued = h.issued.queued;
    names = join (map (λ (k : Issue). k.entry) issues) (map (id_in m.view) old) u.names (map (id_in m.view) new) old_issued new_names ∙ sym (map-append (id_in m.view) old new);
    lags = λ j lt. subst (λ p. HasLag delays m.view p (get_or issues j no_issue)) (sym (old_at j lt)) (h.issued.lags j lt);
  }
    where
      join : (a b c d : List EntryId) → a ≡ b → c ≡ d → a ++ c ≡ b ++ d
      join a b c d p q = rw (p, q) refl

  old_ready : All (IsReadyIn m.view) old
  old_ready = All-from_get_or (IsReadyIn m.view) old no_place (λ j lt. let below : j < length issues = omega (arith, lt, old_long) in subst (IsReadyIn m.view) (sym (get_or-take (length issues) h.chosen j no_place below)) (h.ready j below))

  -- one that is ready and chosen neither before nor now
  left_out : (p : Place) → IsReadyIn m.view p → ¬ Contains (old ++ new) p → (issue_of p.context (entry_in m.view p) issues ≡ None) × IsReadyIn u.view p × ¬ Contains new p
  left_out p ready out =
      let none = unissued_out delays h.chosen m n issues growing inside h.issued p ready.0 (supplied_in_flight m.view p (ready_place_supplied m.view p ready)) (λ among. out (Contains-append_left old new p among)) in
      (none, ready_after m.view u.view issues changes.contexts.each h.issued.queued p ready none, λ among. out (Contains-append_right old new p among))

  long : length (old ++ new) ≡ length issues + length new
  long = length-append old new ∙ ap (λ k. k + length new) old_long

  -- as if each had been asked before any issued
  pub chosen_anew : IsIssuing key delays width m u issues
  chosen_anew = record {
    names = map (id_in m.view) (old ++ new);
    choice = record {
      chosen = old ++ new;
      names_are = refl;
      choice = record {
        ready = All-append (IsReadyIn m.view) old new old_ready (All-weaker (IsReadyIn u.view) (IsReadyIn m.view) (λ p ready. (new_ready p ready).1) new anew.choice.ready);
        once = pairs_taken (λ p q. is_id p.context (entry_in m.view p).stamp (id_in m.view q) ≡ false) (length issues) h.chosen new h.once new_once
            (All-from_get_or (λ p. All (λ q. is_id p.context (entry_in m.view p).stamp (id_in m.view q) ≡ false) new) old no_place (λ j lt k d lk. apart_all (get_or new k d) (new_ready (get_or new k d) (anew.choice.ready k d lk)).0 j no_place lt));
        in_order = pairs_taken (IsNotAfter key m.view) (length issues) h.chosen new h.in_order
            (λ i j d lt lj. old_order (get_or new i d) (get_or new j d) (anew.choice.ready i d (omega (arith, lt, lj))) (anew.choice.ready j d lj) (anew.choice.in_order i j d lt lj))
            (All-from_get_or (λ p. All (IsNotAfter key m.view p) new) old no_place (λ j lt k d lk. let was = new_ready (get_or new k d) (anew.choice.ready k d lk) in ahead_all (get_or new k d) was.1 was.0 j no_place lt));
        most = (let most = anew.choice.most in omega (arith, most, long, rest));
        used_up = λ p ready out. let l = left_out p ready out in let all = anew.choice.used_up p l.1 l.2 in omega (arith, all, long, rest);
        first = λ p ready out. let l = left_out p ready out in All-append (λ q. IsNotAfter key m.view q p) old new (ahead_all p ready l.0)
            (λ j d lt. old_order (get_or new j d) p (anew.choice.ready j d lt) l.1 (anew.choice.first p l.1 l.2 j d lt));
      };
    };
    issued = issued;
  }
    where
      new_once : AllPairs (λ p q. is_id p.context (entry_in m.view p).stamp (id_in m.view q) ≡ false) new
      new_once i j d lt lj =
          let p = get_or new i d in
          let q = get_or new j d in
          named p.context (id_in u.view p) (id_in m.view p) (id_in u.view q) (id_in m.view q) (old_id p (anew.choice.ready i d (omega (arith, lt, lj)))) (old_id q (anew.choice.ready j d lj)) (anew.choice.once i j d lt lj)
        where
          named : (c : ℕ) (a b s t : EntryId) → a ≡ b → s ≡ t → is_id c a.stamp s ≡ false → is_id c b.stamp t ≡ false
          named c a b s t p q h = subst (λ z. is_id c b.stamp z ≡ false) q (subst (λ (z : EntryId). is_id c z.stamp s ≡ false) p h)

-- ---- then none waits

pub none_waits : (key : QueueView → ℕ) (delays : ℕ → Kind → ℕ → Lag → Bool) (width : ℕ) (m n : Machine) (issues : List Issue) → ((c : ℕ) → c < 8 → IsGrowing 0 (context_at m c).flight) → IsIssuing key delays width m n issues → IsHeadWaiting n → ⊥
none_waits key delays width m n issues growing h head = true≢false (sym (subst (λ (p : Place). is_ready (context_in n.view p.context) p.place ≡ true) place.2 now.1) ∙ head.waits)
  where
    inside : All (IsInFlight m.view) h.choice.chosen
    inside = chosen_in_flight m.view h.choice.chosen h.choice.choice.ready

    place : (head.name.context < 8) × (length issues < length h.choice.chosen) × (get_or h.choice.chosen (length issues) no_place ≡ record { context = head.name.context; place = head.place })
    place = head_place delays h.choice.chosen m n issues growing inside h.issued head.name head.rest head.names head.place head.within head.stamp

    none : issue_of (get_or h.choice.chosen (length issues) no_place).context (entry_in m.view (get_or h.choice.chosen (length issues) no_place)) issues ≡ None
    none = unissued_apart delays h.choice.chosen m n issues growing inside h.issued (get_or h.choice.chosen (length issues) no_place)
        (λ j lt. other_id m.view (get_or h.choice.chosen j no_place) (get_or h.choice.chosen (length issues) no_place) (h.choice.choice.once j (length issues) no_place lt place.1))

    now : IsReadyIn n.view (get_or h.choice.chosen (length issues) no_place)
    now = ready_after m.view n.view issues h.issued.contexts.contexts.each h.issued.queued (get_or h.choice.chosen (length issues) no_place) (h.choice.choice.ready (length issues) no_place place.1) none
