-- The entries that were selected issue one by one: what that makes of a view.
use Rattle.std.proofs.Common.{◌≡◌, ◌≢◌, ℕ, zero, suc, ◌+◌, ◌<◌, Bool, true, false, List, [], ◌∷◌, ◌++◌, length, map, get_or, Option, Some, None, refl, sym, ap, ◌∙◌, subst, arith, inl, inr, append-nil, append_assoc}
use Rattle.std.specs.Prelude.{◌==◌, set, if◌then◌else◌, unwrap_or, All}
use Rattle.std.specs.Option.{option_or}
use Rattle.std.proofs.lemmas.Bool.{cases_lt, cases_eq, eq-eqb, ne_eqb, and_from, and_left, and_right}
use Rattle.std.proofs.lemmas.List.{length-append, length_push, length-map, length-set, map-append, get_or-map, get_or-set_same, get_or-set_other, get_or_append_left, get_or_at, ext_get_or}
use Rattle.std.proofs.lemmas.List.Elements.{All-weaker}
use Rattle.std.proofs.lemmas.List.Folds.{find-append}
use Rattle.hart_step.specs.State.{State}
use Rattle.issue_queue.specs.declared.entry.QueueView.{QueueView}
use Rattle.data_tags.specs.declared.delay.Kind.{Kind}
use Rattle.data_tags.specs.declared.delay.Lag.{Lag}
use Rattle.core_view.specs.declared.outcome.Outcome.{Outcome}
use Rattle.core_view.specs.declared.entry.Execution.{Execution}
use Rattle.core_view.specs.declared.entry.Stage.TheVariants.{Queued, Issued}
use Rattle.core_view.specs.declared.entry.Entry.{Entry}
use Rattle.core_view.specs.declared.note.EntryId.{EntryId}
use Rattle.core_view.specs.declared.note.Issue.{Issue}
use Rattle.core_view.specs.Operations.{first_source_of, second_source_of}
use Rattle.core_view.specs.Outcomes.{image_of, outcome_in}
use Rattle.core_view.specs.Flight.{Seen, seen_of, source_value, is_queued, IsGrowing}
use Rattle.core_view.specs.Events.{with_flight, with_stage, issue_event}
use Rattle.core_view.specs.View.{Context, View, no_entry, entry_at, seen_at}
use Rattle.lawful_cycle.specs.Views.{context_in, is_id}
use Rattle.lawful_cycle.specs.Delays.{kind_of, address_in, IsLagOf}
use Rattle.lawful_cycle.specs.Issue.{Place, operation_at_place, outcome_at, address_at, is_ready, id_in, IsReadyIn, issue_of, issued_if, issued_from, no_issue, no_place, HasLag, IsIssue}
use Rattle.core_back.specs.Issued.{IsIssued}
use Rattle.core_back.specs.Selected.{IsChosen}
use Rattle.core_back.specs.Machine.{Machine, context_at, no_context}
use Rattle.core_context.proofs.Laws.{same_place}
pub use Rattle.core_back.specs.Issuing.{WereQueued, HaveIssued, IsIssuing}
use Rattle.core_back.proofs.IssuedFlights.{issued_length, issued_entry, issued_none, issued_stamp, not_issued, seen_same, ready_kept, IsInFlight, supplied_in_flight, ready_place_supplied}
use Rattle.lawful_cycle.specs.Queries.{IsTimed}
use Rattle.lawful_cycle.specs.Steps.{IsTimedAt}

-- ---- an outcome, by the state, what is seen and the entry

abbrev outcome_made : State → Seen → Entry → Outcome
outcome_made s seen e = outcome_in (image_of s) seen.bytes e.operation e.pc (unwrap_or (source_value seen.registers (first_source_of e.operation)) 0) (unwrap_or (source_value seen.registers (second_source_of e.operation)) 0)

abbrev address_made : Seen → Entry → ℕ
address_made seen e = address_in e.operation e.pc (unwrap_or (source_value seen.registers (first_source_of e.operation)) 0) (unwrap_or (source_value seen.registers (second_source_of e.operation)) 0)

outcome_same : (s t : State) (a b : Seen) (e f : Entry) → s ≡ t → a ≡ b → e ≡ f → outcome_made s a e ≡ outcome_made t b f
outcome_same s t a b e f p q r = rw (p, q, r) refl

address_same : (a b : Seen) (e f : Entry) → a ≡ b → e ≡ f → address_made a e ≡ address_made b f
address_same a b e f q r = rw (q, r) refl

-- ---- one more issues

of_another : (c : ℕ) (e : Entry) (issues : List Issue) (n : Issue) → is_id c e.stamp n.entry ≡ false → issue_of c e (issues ++ n ∷ []) ≡ issue_of c e issues
of_another c e issues n other = find-append (λ m. is_id c e.stamp m.entry) issues (n ∷ []) ∙ ap (λ b. option_or (issue_of c e issues) (if b then Some n else None)) other ∙ or_none (issue_of c e issues)
  where
    or_none : (o : Option Issue) → option_or o None ≡ o
    or_none None = refl
    or_none (Some m) = refl

of_itself : (c : ℕ) (e : Entry) (issues : List Issue) (n : Issue) → issue_of c e issues ≡ None → is_id c e.stamp n.entry ≡ true → issue_of c e (issues ++ n ∷ []) ≡ Some n
of_itself c e issues n none mine = find-append (λ m. is_id c e.stamp m.entry) issues (n ∷ []) ∙ ap (λ b. option_or (issue_of c e issues) (if b then Some n else None)) mine ∙ ap (λ o. option_or o (Some n)) none

-- another context's entries issue as before
other_issues : (cycle c : ℕ) (issues : List Issue) (n : Issue) (x : Context) (i : ℕ) (es : List Entry) → n.entry.context ≢ c → issued_from cycle c issues x i es ≡ issued_from cycle c (issues ++ n ∷ []) x i es
other_issues cycle c issues n x i [] ne = refl
other_issues cycle c issues n x i (e ∷ es) ne =
    join (issued_if cycle x i e (issue_of c e issues)) (issued_if cycle x i e (issue_of c e (issues ++ n ∷ []))) _ _ (ap (issued_if cycle x i e) (sym (of_another c e issues n (and_left (n.entry.context == c) (n.entry.stamp == e.stamp) (ne_eqb n.entry.context c ne))))) (other_issues cycle c issues n x (suc i) es ne)
  where
    join : (a b : Entry) (as' bs : List Entry) → a ≡ b → as' ≡ bs → a ∷ as' ≡ b ∷ bs
    join a b as' bs p q = rw (p, q) refl

-- in its own context
module _ (cycle c : ℕ) (issues : List Issue) (n : Issue) (x : Context) (p : ℕ) (execution : Execution) (growing : IsGrowing 0 x.flight) (were : WereQueued c issues x.flight) (mine : n.entry.context ≡ c) (within : p < length x.flight) where
  abbrev es : List Entry
  es = x.flight

  abbrev fs : List Entry
  fs = issued_from cycle c issues x 0 es

  abbrev y : Context
  y = with_flight x fs

  abbrev gs : List Entry
  gs = issued_from cycle c (issues ++ n ∷ []) x 0 es

  long : length fs ≡ length es
  long = issued_length cycle c issues x 0 es

  entry_now : (k : ℕ) → k < length es → get_or fs k no_entry ≡ issued_if cycle x k (get_or es k no_entry) (issue_of c (get_or es k no_entry) issues)
  entry_now k lt = let at : 0 + k ≡ k = omega arith in issued_entry cycle c issues x 0 k es lt ∙ ap (λ j. issued_if cycle x j (get_or es k no_entry) (issue_of c (get_or es k no_entry) issues)) at

  entry_then : (k : ℕ) → k < length es → get_or gs k no_entry ≡ issued_if cycle x k (get_or es k no_entry) (issue_of c (get_or es k no_entry) (issues ++ n ∷ []))
  entry_then k lt = let at : 0 + k ≡ k = omega arith in issued_entry cycle c (issues ++ n ∷ []) x 0 k es lt ∙ ap (λ j. issued_if cycle x j (get_or es k no_entry) (issue_of c (get_or es k no_entry) (issues ++ n ∷ []))) at

  seen_here : seen_at y p ≡ seen_at x p
  seen_here = seen_same cycle c issues x 0 p es (seen_of x.state) were

  module _ (queued : (get_or fs p no_entry).stage ≡ Queued) (stamp : (get_or fs p no_entry).stamp ≡ n.entry.stamp) where
    pub none_yet : issue_of c (get_or es p no_entry) issues ≡ None
    none_yet = not_issued cycle p x (get_or es p no_entry) (issue_of c (get_or es p no_entry) issues) (ap (λ (e : Entry). is_queued e.stage) (sym (entry_now p within)) ∙ ap is_queued queued)

    pub same_entry : get_or fs p no_entry ≡ get_or es p no_entry
    same_entry = entry_now p within ∙ ap (issued_if cycle x p (get_or es p no_entry)) none_yet

    pub stamp_first : (get_or es p no_entry).stamp ≡ n.entry.stamp
    stamp_first = ap (λ (e : Entry). e.stamp) (sym same_entry) ∙ stamp

    pub same_outcome : outcome_at y p ≡ outcome_at x p
    same_outcome = outcome_same x.state x.state (seen_at y p) (seen_at x p) (get_or fs p no_entry) (get_or es p no_entry) refl seen_here same_entry

    pub same_address : address_at y p ≡ address_at x p
    same_address = address_same (seen_at y p) (seen_at x p) (get_or fs p no_entry) (get_or es p no_entry) seen_here same_entry

    other_name : (k : ℕ) → k < length es → k ≢ p → is_id c (get_or es k no_entry).stamp n.entry ≡ false
    other_name k lt ne = and_right (n.entry.context == c) (n.entry.stamp == (get_or es k no_entry).stamp) (ne_eqb n.entry.stamp (get_or es k no_entry).stamp (λ e. ne (same_place 0 es k p growing lt within (sym e ∙ sym stamp_first))))

    own_name : is_id c (get_or es p no_entry).stamp n.entry ≡ true
    own_name = and_from (n.entry.context == c) (n.entry.stamp == (get_or es p no_entry).stamp) (eq-eqb n.entry.context c mine) (eq-eqb n.entry.stamp (get_or es p no_entry).stamp (sym stamp_first))

    pub own_issues : execution ≡ record { due = cycle + n.latency; miss = n.miss; outcome = outcome_at x p } → set fs p (with_stage (get_or fs p no_entry) (Issued execution)) ≡ gs
    own_issues is = ext_get_or no_entry (set fs p (with_stage (get_or fs p no_entry) (Issued execution))) gs (length-set fs p (with_stage (get_or fs p no_entry) (Issued execution)) ∙ long ∙ sym (issued_length cycle c (issues ++ n ∷ []) x 0 es)) at
      where
        here : get_or (set fs p (with_stage (get_or fs p no_entry) (Issued execution))) p no_entry ≡ get_or gs p no_entry
        here =
            get_or-set_same fs p (with_stage (get_or fs p no_entry) (Issued execution)) no_entry (omega (arith, within, long)) ∙ ap (λ (e : Entry). with_stage e (Issued execution)) same_entry
            ∙ ap (λ x. with_stage (get_or es p no_entry) (Issued x)) is ∙ ap (issued_if cycle x p (get_or es p no_entry)) (sym (of_itself c (get_or es p no_entry) issues n none_yet own_name)) ∙ sym (entry_then p within)

        there : (k : ℕ) → k < length es → k ≢ p → get_or (set fs p (with_stage (get_or fs p no_entry) (Issued execution))) k no_entry ≡ get_or gs k no_entry
        there k lt ne =
            get_or-set_other fs p k (with_stage (get_or fs p no_entry) (Issued execution)) no_entry ne ∙ entry_now k lt
            ∙ ap (issued_if cycle x k (get_or es k no_entry)) (sym (of_another c (get_or es k no_entry) issues n (other_name k lt ne))) ∙ sym (entry_then k lt)

        at : (k : ℕ) → k < length (set fs p (with_stage (get_or fs p no_entry) (Issued execution))) → get_or (set fs p (with_stage (get_or fs p no_entry) (Issued execution))) k no_entry ≡ get_or gs k no_entry
        at k lk = elim (cases_eq k p) [
          | inl same ↦ subst (λ j. get_or (set fs p (with_stage (get_or fs p no_entry) (Issued execution))) j no_entry ≡ get_or gs j no_entry) (sym same) here
          | inr ne ↦ let count = length-set fs p (with_stage (get_or fs p no_entry) (Issued execution)) in there k (omega (arith, lk, count, long)) ne
        ]

    pub queued_then : WereQueued c (issues ++ n ∷ []) es
    queued_then k m lt is = elim (cases_eq k p) [
      | inl same ↦ subst (λ j. (get_or es j no_entry).stage ≡ Queued) (sym same) (ap (λ (e : Entry). e.stage) (sym same_entry) ∙ queued)
      | inr ne ↦ were k m lt (sym (of_another c (get_or es k no_entry) issues n (other_name k lt ne)) ∙ is)
    ]

queued_other : (c : ℕ) (issues : List Issue) (n : Issue) (es : List Entry) → n.entry.context ≢ c → WereQueued c issues es → WereQueued c (issues ++ n ∷ []) es
queued_other c issues n es ne were k m lt is = were k m lt (sym (of_another c (get_or es k no_entry) issues n (and_left (n.entry.context == c) (n.entry.stamp == (get_or es k no_entry).stamp) (ne_eqb n.entry.context c ne))) ∙ is)

-- ---- the machine, as far as its names have issued

pub issued_first : (delays : ℕ → Kind → ℕ → Lag → Bool) (chosen : List Place) (m n : Machine) (issues : List Issue) → length m.view.contexts ≡ 8 → n.view ≡ m.view → issues ≡ [] → n.names ≡ map (id_in m.view) chosen → HaveIssued delays chosen m n issues
issued_first delays chosen m n issues count same none names = rw none (record {
  contexts = record {
    contexts = record { count_before = count; count_after = ap (λ (v : View). length v.contexts) same ∙ count; each = λ c lc. ap (λ (v : View). context_in v c) same ∙ ap (with_flight (context_at m c)) (sym (issued_none m.view.cycle c (context_at m c) 0 (context_at m c).flight)) };
    profile = ap (λ (v : View). v.profile) same;
    cycle = ap (λ (v : View). v.cycle) same;
    stamp = ap (λ (v : View). v.stamp) same;
  };
  queued = λ c lc k i lt is. absurd (none_some i is);
  names = names;
  lags = λ j lt. absurd (omega (arith, lt));
})
  where
    none_some : (i : Issue) → None ≡ Some i → ⊥
    none_some i h = cc

within_contexts : (xs : List Context) (c i : ℕ) → i < length (get_or xs c no_context).flight → c < length xs
within_contexts [] c i lt = absurd (omega (arith, lt))
within_contexts (x ∷ xs) zero i lt = omega arith
within_contexts (x ∷ xs) (suc c) i lt = omega (arith, within_contexts xs c i lt)

-- the place of a name is the one that has its stamp
pub place_is : (v : View) (q : Place) (c p : ℕ) (id : EntryId) → IsGrowing 0 (context_in v c).flight → id_in v q ≡ id → id.context ≡ c → q.place < length (context_in v q.context).flight → p < length (context_in v c).flight → (entry_at (context_in v c) p).stamp ≡ id.stamp
    → q ≡ record { context = c; place = p }
place_is v q c p id growing is mine inside within stamp = parts q.context q.place c p context place
  where
    context : q.context ≡ c
    context = ap (λ (n : EntryId). n.context) is ∙ mine

    there : (entry_at (context_in v c) q.place).stamp ≡ id.stamp
    there = ap (λ d. (entry_at (context_in v d) q.place).stamp) (sym context) ∙ ap (λ (n : EntryId). n.stamp) is

    place : q.place ≡ p
    place = same_place 0 (context_in v c).flight q.place p growing (subst (λ d. q.place < length (context_in v d).flight) context inside) within (there ∙ sym stamp)

    parts : (a b c d : ℕ) → a ≡ c → b ≡ d → ◌≡◌ {A = Place} (record { context = a; place = b }) (record { context = c; place = d })
    parts a b c d p q = rw (p, q) refl

-- what was chosen has issued or is left
pub issued_count : (delays : ℕ → Kind → ℕ → Lag → Bool) (chosen : List Place) (m n : Machine) (issues : List Issue) → HaveIssued delays chosen m n issues → length issues + length n.names ≡ length chosen
issued_count delays chosen m n issues h =
    let all = ap (λ (ids : List EntryId). length ids) h.names in
    let split = length-append (map (λ (n : Issue). n.entry) issues) n.names in
    let named = length-map issues (λ (n : Issue). n.entry) in
    let of_chosen = length-map chosen (id_in m.view) in
    omega (arith, all, split, named, of_chosen)

-- what has issued is named as the first that were chosen
pub issue_named : (delays : ℕ → Kind → ℕ → Lag → Bool) (chosen : List Place) (m n : Machine) (issues : List Issue) → HaveIssued delays chosen m n issues → (j : ℕ) → j < length issues → (j < length chosen) × ((get_or issues j no_issue).entry ≡ id_in m.view (get_or chosen j no_place))
issue_named delays chosen m n issues h j lt = (
  within,
  sym (get_or-map (λ (n : Issue). n.entry) issues j no_issue no_issue.entry lt) ∙ sym (get_or_append_left (map (λ (n : Issue). n.entry) issues) n.names no_issue.entry j (omega (arith, lt, named)))
      ∙ ap (λ (ids : List EntryId). get_or ids j no_issue.entry) h.names ∙ get_or-map (id_in m.view) chosen j no_place no_issue.entry within,
)
  where
    named : length (map (λ (n : Issue). n.entry) issues) ≡ length issues
    named = length-map issues (λ (n : Issue). n.entry)

    within : j < length chosen
    within = let count = issued_count delays chosen m n issues h in omega (arith, count, lt)

module _ (delays : ℕ → Kind → ℕ → Lag → Bool) (chosen : List Place) (m n : Machine) (issues : List Issue) (growing : (c : ℕ) → c < 8 → IsGrowing 0 (context_at m c).flight) (inside : All (IsInFlight m.view) chosen) (h : HaveIssued delays chosen m n issues) (name : EntryId) (rest : List EntryId) (left : n.names ≡ name ∷ rest) where
  -- the first of the names that are left is the next of those that were chosen
  head_chosen : (length issues < length chosen) × (id_in m.view (get_or chosen (length issues) no_place) ≡ name)
  head_chosen = (
    long,
    sym (get_or-map (id_in m.view) chosen (length issues) no_place name long) ∙ ap (λ (ids : List EntryId). get_or ids (length issues) name) (sym h.names)
        ∙ ap (λ ids. get_or (map (λ (n : Issue). n.entry) issues ++ ids) (length issues) name) left ∙ get_or_at (map (λ (n : Issue). n.entry) issues) name rest name (length issues) named,
  )
    where
      named : length (map (λ (n : Issue). n.entry) issues) ≡ length issues
      named = length-map issues (λ (n : Issue). n.entry)

      long : length issues < length chosen
      long = let count = issued_count delays chosen m n issues h in let some = ap (λ (ids : List EntryId). length ids) left in omega (arith, count, some)

  -- at the place that has its stamp
  pub head_place : (p : ℕ) → p < length (context_at n name.context).flight → (entry_at (context_at n name.context) p).stamp ≡ name.stamp → (name.context < 8) × (length issues < length chosen) × (get_or chosen (length issues) no_place ≡ record { context = name.context; place = p })
  head_place p lt stamp = (lc, head_chosen.0, place_is m.view (get_or chosen (length issues) no_place) name.context p name (growing name.context lc) head_chosen.1 refl (inside (length issues) no_place head_chosen.0) within was)
    where
      lc : name.context < 8
      lc = let count = h.contexts.contexts.count_after in let below = within_contexts n.view.contexts name.context p lt in omega (arith, count, below)

      x : Context
      x = context_at m name.context

      now : context_at n name.context ≡ with_flight x (issued_from m.view.cycle name.context issues x 0 x.flight)
      now = h.contexts.contexts.each name.context lc

      within : p < length x.flight
      within =
          let same = ap (λ (y : Context). length y.flight) now in
          let long = issued_length m.view.cycle name.context issues x 0 x.flight in
          omega (arith, lt, same, long)

      was : (entry_at x p).stamp ≡ name.stamp
      was = sym (issued_stamp m.view.cycle name.context issues x 0 p x.flight) ∙ ap (λ (y : Context). (entry_at y p).stamp) (sym now) ∙ stamp

module _ (delays : ℕ → Kind → ℕ → Lag → Bool) (chosen : List Place) (m n u : Machine) (issues : List Issue) (i : Issue) (growing : (c : ℕ) → c < 8 → IsGrowing 0 (context_at m c).flight) (inside : All (IsInFlight m.view) chosen)
    (h : HaveIssued delays chosen m n issues) (one : IsIssued delays n u i) where
  abbrev c : ℕ
  c = i.entry.context

  abbrev x : Context
  x = context_at m i.entry.context

  abbrev made : Context
  made = with_flight x (issued_from m.view.cycle i.entry.context issues x 0 x.flight)

  lc : i.entry.context < 8
  lc = let count = h.contexts.contexts.count_after in let lt = within_contexts n.view.contexts i.entry.context one.place one.within in omega (arith, count, lt)

  now : context_at n i.entry.context ≡ made
  now = h.contexts.contexts.each i.entry.context lc

  within : one.place < length x.flight
  within =
      let lt = one.within in
      let same = ap (λ (y : Context). length y.flight) now in
      let long = issued_length m.view.cycle i.entry.context issues x 0 x.flight in
      omega (arith, lt, same, long)

  cycle_same : n.view.cycle ≡ m.view.cycle
  cycle_same = h.contexts.cycle

  queued : (entry_at made one.place).stage ≡ Queued
  queued = ap (λ (y : Context). (entry_at y one.place).stage) (sym now) ∙ one.queued

  stamp : (entry_at made one.place).stamp ≡ i.entry.stamp
  stamp = ap (λ (y : Context). (entry_at y one.place).stamp) (sym now) ∙ one.stamp

  outcome_is : outcome_at (context_at n i.entry.context) one.place ≡ outcome_at x one.place
  outcome_is = ap (λ y. outcome_at y one.place) now ∙ same_outcome m.view.cycle i.entry.context issues i x one.place one.execution (growing i.entry.context lc) (h.queued i.entry.context lc) refl within queued stamp

  address_is : address_at (context_at n i.entry.context) one.place ≡ address_at x one.place
  address_is = ap (λ y. address_at y one.place) now ∙ same_address m.view.cycle i.entry.context issues i x one.place one.execution (growing i.entry.context lc) (h.queued i.entry.context lc) refl within queued stamp

  operation_is : operation_at_place (context_at n i.entry.context) one.place ≡ operation_at_place x one.place
  operation_is = ap (λ y. operation_at_place y one.place) now ∙ ap (λ (e : Entry). e.operation) (same_entry m.view.cycle i.entry.context issues i x one.place one.execution (growing i.entry.context lc) (h.queued i.entry.context lc) refl within queued stamp)

  execution_is : one.execution ≡ record { due = m.view.cycle + i.latency; miss = i.miss; outcome = outcome_at x one.place }
  execution_is = parts one.execution.due (m.view.cycle + i.latency) one.execution.miss i.miss one.execution.outcome (outcome_at x one.place) (one.due ∙ ap (λ k. k + i.latency) cycle_same) one.miss (one.performed.outcome ∙ outcome_is)
    where
      parts : (d e : ℕ) (a b : Bool) (o q : Outcome) → d ≡ e → a ≡ b → o ≡ q → ◌≡◌ {A = Execution} (record { due = d; miss = a; outcome = o }) (record { due = e; miss = b; outcome = q })
      parts d e a b o q p1 p2 p3 = rw (p1, p2, p3) refl

  each_next : (d : ℕ) → d < 8 → context_at u d ≡ with_flight (context_at m d) (issued_from m.view.cycle d (issues ++ i ∷ []) (context_at m d) 0 (context_at m d).flight)
  each_next d ld = elim (cases_eq i.entry.context d) [
    | inl same ↦ subst (λ e. context_at u e ≡ with_flight (context_at m e) (issued_from m.view.cycle e (issues ++ i ∷ []) (context_at m e) 0 (context_at m e).flight)) same
        (ap (λ (q : Machine). context_at q i.entry.context) one.after
        ∙ get_or-set_same n.view.contexts i.entry.context (issue_event (context_at n i.entry.context) one.place one.execution) no_context (within_contexts n.view.contexts i.entry.context one.place one.within)
        ∙ ap (λ y. issue_event y one.place one.execution) now
        ∙ ap (with_flight x) (own_issues m.view.cycle i.entry.context issues i x one.place one.execution (growing i.entry.context lc) (h.queued i.entry.context lc) refl within queued stamp execution_is))
    | inr ne ↦
        ap (λ (q : Machine). context_at q d) one.after
        ∙ get_or-set_other n.view.contexts i.entry.context d (issue_event (context_at n i.entry.context) one.place one.execution) no_context (λ e. ne (sym e))
        ∙ h.contexts.contexts.each d ld
        ∙ ap (with_flight (context_at m d)) (other_issues m.view.cycle d issues i (context_at m d) 0 (context_at m d).flight ne)
  ]

  queued_next : (d : ℕ) → d < 8 → WereQueued d (issues ++ i ∷ []) (context_at m d).flight
  queued_next d ld = elim (cases_eq i.entry.context d) [
    | inl same ↦ subst (λ e. WereQueued e (issues ++ i ∷ []) (context_at m e).flight) same
        (queued_then m.view.cycle i.entry.context issues i x one.place one.execution (growing i.entry.context lc) (h.queued i.entry.context lc) refl within queued stamp)
    | inr ne ↦ queued_other d issues i (context_at m d).flight ne (h.queued d ld)
  ]

  names_next : map (λ n. n.entry) (issues ++ i ∷ []) ++ u.names ≡ map (id_in m.view) chosen
  names_next =
      ap (λ ids. ids ++ u.names) (map-append (λ (n : Issue). n.entry) issues (i ∷ [])) ∙ append_assoc (map (λ (n : Issue). n.entry) issues) (i.entry ∷ []) u.names
      ∙ ap (λ ids. map (λ (n : Issue). n.entry) issues ++ ids) (sym one.names) ∙ h.names

  -- the one that issues is the next of those that were chosen
  chosen_is : get_or chosen (length issues) no_place ≡ record { context = i.entry.context; place = one.place }
  chosen_is = (head_place delays chosen m n issues growing inside h i.entry u.names one.names one.place one.within one.stamp).2

  -- and was ready before any issued
  pub next_ready : IsReadyIn m.view (get_or chosen (length issues) no_place)
  next_ready = subst (IsReadyIn m.view) (sym chosen_is) (lc, sym (ready_kept m.view.cycle i.entry.context issues x (h.queued i.entry.context lc) one.place within none) ∙ ap (λ y. is_ready y one.place) (sym now) ∙ one.performed.ready)
    where
      none : issue_of i.entry.context (entry_at x one.place) issues ≡ None
      none = none_yet m.view.cycle i.entry.context issues i x one.place one.execution (growing i.entry.context lc) (h.queued i.entry.context lc) refl within queued stamp

  lag_is : HasLag delays m.view (record { context = i.entry.context; place = one.place }) i
  lag_is = parts (kind_of (operation_at_place (context_at n i.entry.context) one.place)) (kind_of (operation_at_place x one.place)) (address_at (context_at n i.entry.context) one.place) (address_at x one.place) (outcome_at (context_at n i.entry.context) one.place) (outcome_at x one.place) one.execution.miss i.miss
      (ap kind_of operation_is) address_is outcome_is one.miss one.performed.lag
    where
      parts : (k j : Kind) (a b : ℕ) (o q : Outcome) (s t : Bool) → k ≡ j → a ≡ b → o ≡ q → s ≡ t → IsLagOf (delays i.entry.context) k a o (record { cycles = i.latency; miss = s }) → IsLagOf (delays i.entry.context) j b q (record { cycles = i.latency; miss = t })
      parts k j a b o q s t p1 p2 p3 p4 h = subst (λ v. IsLagOf (delays i.entry.context) j b q (record { cycles = i.latency; miss = v })) p4 (subst (λ v. IsLagOf (delays i.entry.context) j b v (record { cycles = i.latency; miss = s })) p3 (subst (λ v. IsLagOf (delays i.entry.context) j v o (record { cycles = i.latency; miss = s })) p2 (subst (λ v. IsLagOf (delays i.entry.context) v a o (record { cycles = i.latency; miss = s })) p1 h)))

  -- the same of the entry where all stands that was selected, and where some has issued
  pub timed_next : {T : Type 0} (answer : T → ℕ → Kind → ℕ → Lag) (queried : T → ℕ → Kind → ℕ → T) (s t : T)
      → (let y = context_at n i.entry.context in IsTimed answer queried s t i.entry.context (kind_of (operation_at_place y one.place)) (address_at y one.place) (outcome_at y one.place) (record { cycles = i.latency; miss = one.execution.miss }))
      → IsTimedAt answer queried m.view i s t
  timed_next answer queried s t timed = record {
    context = lc;
    place = one.place;
    within = within;
    stamp = sym (issued_stamp m.view.cycle i.entry.context issues x 0 one.place x.flight) ∙ stamp;
    timed = parts (kind_of (operation_at_place (context_at n i.entry.context) one.place)) (kind_of (operation_at_place x one.place)) (address_at (context_at n i.entry.context) one.place) (address_at x one.place) (outcome_at (context_at n i.entry.context) one.place) (outcome_at x one.place) one.execution.miss i.miss
        (ap kind_of operation_is) address_is outcome_is one.miss timed;
  }
    where
      parts : (k j : Kind) (a b : ℕ) (o q : Outcome) (v w : Bool) → k ≡ j → a ≡ b → o ≡ q → v ≡ w → IsTimed answer queried s t i.entry.context k a o (record { cycles = i.latency; miss = v }) → IsTimed answer queried s t i.entry.context j b q (record { cycles = i.latency; miss = w })
      parts k j a b o q v w p1 p2 p3 p4 h = subst (λ d. IsTimed answer queried s t i.entry.context j b q (record { cycles = i.latency; miss = d })) p4 (subst (λ d. IsTimed answer queried s t i.entry.context j b d (record { cycles = i.latency; miss = v })) p3 (subst (λ d. IsTimed answer queried s t i.entry.context j d o (record { cycles = i.latency; miss = v })) p2 (subst (λ d. IsTimed answer queried s t i.entry.context d a o (record { cycles = i.latency; miss = v })) p1 h)))

  lags_next : (j : ℕ) → j < length (issues ++ i ∷ []) → HasLag delays m.view (get_or chosen j no_place) (get_or (issues ++ i ∷ []) j no_issue)
  lags_next j lt = elim (cases_lt j (length issues)) [
    | inl less ↦ subst (λ k. HasLag delays m.view (get_or chosen j no_place) k) (sym (get_or_append_left issues (i ∷ []) no_issue j less)) (h.lags j less)
    | inr ge ↦
        let more = length_push issues i in
        let at : length issues ≡ j = omega (arith, ge, lt, more) in
        subst (λ k. HasLag delays m.view (get_or chosen k no_place) (get_or (issues ++ i ∷ []) k no_issue)) at
        (subst (λ k. HasLag delays m.view (get_or chosen (length issues) no_place) k) (sym (get_or_at issues i [] no_issue (length issues) refl)) (subst (λ q. HasLag delays m.view q i) (sym chosen_is) lag_is))
  ]

  pub issued_next : HaveIssued delays chosen m u (issues ++ i ∷ [])
  issued_next = record {
    contexts = record {
      contexts = record { count_before = h.contexts.contexts.count_before; count_after = ap (λ (q : Machine). length q.view.contexts) one.after ∙ length-set n.view.contexts i.entry.context _ ∙ h.contexts.contexts.count_after; each = each_next };
      profile = ap (λ (q : Machine). q.view.profile) one.after ∙ h.contexts.profile;
      cycle = ap (λ (q : Machine). q.view.cycle) one.after ∙ h.contexts.cycle;
      stamp = ap (λ (q : Machine). q.view.stamp) one.after ∙ h.contexts.stamp;
    };
    queued = queued_next;
    names = names_next;
    lags = lags_next;
  }

-- what was chosen as ready stands in flight
pub chosen_in_flight : (v : View) (chosen : List Place) → All (IsReadyIn v) chosen → All (IsInFlight v) chosen
chosen_in_flight v chosen ready = All-weaker (IsReadyIn v) (IsInFlight v) (λ p h. supplied_in_flight v p (ready_place_supplied v p h)) chosen ready

-- ---- all have issued

pub issue_lawful : (key : QueueView → ℕ) (delays : ℕ → Kind → ℕ → Lag → Bool) (width : ℕ) (names : List EntryId) (m n : Machine) (issues : List Issue) (choice : IsChosen key width m.view names) → width ≡ m.view.profile.issue_width → HaveIssued delays choice.chosen m n issues → n.names ≡ []
    → IsIssue key delays m.view n.view issues
issue_lawful key delays width names m n issues choice is h none = record {
  contexts = h.contexts;
  chosen = choice.chosen;
  names = named;
  ready = choice.choice.ready;
  once = choice.choice.once;
  in_order = choice.choice.in_order;
  most = (let most = choice.choice.most in omega (arith, most, count, is));
  used_up = λ p ready out. count ∙ choice.choice.used_up p ready out ∙ is;
  first = choice.choice.first;
  lags = h.lags;
}
  where
    named : map (λ (n : Issue). n.entry) issues ≡ map (id_in m.view) choice.chosen
    named = sym (append-nil (map (λ (n : Issue). n.entry) issues)) ∙ ap (λ ids. map (λ (n : Issue). n.entry) issues ++ ids) (sym none) ∙ h.names

    count : length issues ≡ length choice.chosen
    count = let all = issued_count delays choice.chosen m n issues h in let left = ap (λ (ids : List EntryId). length ids) none in omega (arith, all, left)

-- ---- in the loop

pub issuing_first : (key : QueueView → ℕ) (delays : ℕ → Kind → ℕ → Lag → Bool) (width : ℕ) (m n : Machine) (issues : List Issue) → length m.view.contexts ≡ 8 → n.view ≡ m.view → issues ≡ [] → IsChosen key width m.view n.names → IsIssuing key delays width m n issues
issuing_first key delays width m n issues count same none choice = record { names = n.names; choice = choice; issued = issued_first delays choice.chosen m n issues count same none choice.names_are }

pub issuing_next : (key : QueueView → ℕ) (delays : ℕ → Kind → ℕ → Lag → Bool) (width : ℕ) (m n u : Machine) (issues more : List Issue) (i : Issue) → ((c : ℕ) → c < 8 → IsGrowing 0 (context_at m c).flight) → IsIssuing key delays width m n issues → IsIssued delays n u i → more ≡ issues ++ i ∷ []
    → IsIssuing key delays width m u more
issuing_next key delays width m n u issues more i growing h one pushed =
    record { names = h.names; choice = h.choice; issued = subst (HaveIssued delays h.choice.chosen m u) (sym pushed) (issued_next delays h.choice.chosen m n u issues i growing (chosen_in_flight m.view h.choice.chosen h.choice.choice.ready) h.issued one) }

pub issuing_done : (key : QueueView → ℕ) (delays : ℕ → Kind → ℕ → Lag → Bool) (width : ℕ) (m n : Machine) (issues : List Issue) → IsIssuing key delays width m n issues → width ≡ m.view.profile.issue_width → n.names ≡ [] → IsIssue key delays m.view n.view issues
issuing_done key delays width m n issues h is none = issue_lawful key delays width h.names m n issues h.choice is h.issued none
