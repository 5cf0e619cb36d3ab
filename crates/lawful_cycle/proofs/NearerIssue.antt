-- A still cycle brings a view nearer where a front is issued, and where any entry is renamed: of the fronts that wait, one with
-- the least stamp of all issues.
use Rattle.std.proofs.Common.{◌≡◌, ℕ, zero, suc, ◌+◌, ◌-◌, ◌<◌, ◌≤◌, Bool, true, false, cond, List, [], ◌∷◌, length, get_or, Option, Some, None, refl, sym, ap, ◌∙◌, subst, arith, inl, inr, IsTrue}
use Rattle.std.specs.Prelude.{◌⊎◌, ◌==◌, ◌&&◌, nat_lt, find, if◌then◌else◌, Contains}
use Rattle.std.specs.Option.{option_map_or}
use Rattle.std.proofs.lemmas.Bool.{cases_lt, cases_Bool, true≢false}
use Rattle.std.proofs.lemmas.Bool.Decides.{nat_tests}
use Rattle.std.proofs.lemmas.List.{get_or-map, get_or_default}
use Rattle.hart_step.specs.State.{State}
use Rattle.hart_step.specs.Effects.{effect_of}
use Rattle.data_tags.specs.declared.delay.Kind.{Kind}
use Rattle.data_tags.specs.declared.delay.Lag.{Lag}
use Rattle.data_tags.specs.Latency.{IsWithin}
use Rattle.core_view.specs.declared.operation.Operation.{Operation}
use Rattle.core_view.specs.declared.operation.Operation.TheVariants.{Performs, Stops}
use Rattle.core_view.specs.declared.outcome.Outcome.{Outcome}
use Rattle.core_view.specs.declared.span.Span.{Span}
use Rattle.core_view.specs.declared.entry.Execution.{Execution}
use Rattle.core_view.specs.declared.entry.Stage.{Stage}
use Rattle.core_view.specs.declared.entry.Stage.TheVariants.{Fetched, Queued, Issued, Done}
use Rattle.core_view.specs.declared.entry.Entry.{Entry}
use Rattle.core_view.specs.declared.note.EntryId.{EntryId}
use Rattle.core_view.specs.declared.note.Issue.{Issue}
use Rattle.core_view.specs.declared.note.CycleNote.{CycleNote}
use Rattle.core_view.specs.Operations.{first_source_of, second_source_of}
use Rattle.core_view.specs.Flight.{is_done, is_queued, known, seen_of, source_value}
use Rattle.core_view.specs.Loads.{span_asked, is_clear}
use Rattle.core_view.specs.Queues.{is_renamed}
use Rattle.core_view.specs.Events.{due_at, completed_if, completed_one, completed_entry}
use Rattle.core_view.specs.View.{Context, View, entry_at, no_entry}
use Rattle.lawful_cycle.specs.Views.{context_in, is_id}
use Rattle.lawful_cycle.specs.Delays.{is_access, is_stop, IsLagOf}
use Rattle.lawful_cycle.specs.Issue.{is_clear_on, is_ready_on, is_ready, first_value, second_value, Place, id_in, queue_view, IsReadyIn, IsNotAfter, issue_of, issued_if, no_place, no_issue}
use Rattle.lawful_cycle.specs.Cycle.{Laws, IsLawfulCycle}
use Rattle.lawful_cycle.specs.Stamps.{flight_in, stamp_at}
use Rattle.lawful_cycle.specs.Timing.{IsDueFrom}
use Rattle.lawful_cycle.specs.Order.{AreInOrder}
use Rattle.lawful_cycle.specs.Distance.{stage_wait, front_wait, has_renamed, distance, PutsSureFirst, AreLagsWithin, IsStill, IsDueBefore, HasNarrowSources, IsSteady}
use Rattle.lawful_cycle.proofs.OneFirst.{among_or_not}
use Rattle.lawful_cycle.proofs.UniqueIssue.{join_place, same_or_not, ready_within, ready_queued, count_chosen}
use Rattle.lawful_cycle.proofs.OldestFetched.{completed_renamed, queued_is_renamed}
use Rattle.lawful_cycle.proofs.Places.{completed_at_place}
use Rattle.lawful_cycle.proofs.KeptOrder.{renamed_at, retire_order, complete_order}
use Rattle.lawful_cycle.proofs.Distances.{front_bounds, where_renamed}
use Rattle.lawful_cycle.proofs.Still.{front_wait_at, front_waits, next_cycle, cycle_completed, stays, no_front_done, some_completed, front_completed, completed_stamped, front_issued, front_last, front_past}

-- ---- the least of some numbers below n

least_of : (test : ℕ → Bool) (f : ℕ → ℕ) (n : ℕ) → ((c : ℕ) → c < n → test c ≡ false) ⊎ ((b : ℕ) × (b < n) × (test b ≡ true) × ((c : ℕ) → c < n → test c ≡ true → f b ≤ f c))
least_of test f zero = inl (λ c lt. absurd (omega (arith, lt)))
least_of test f (suc n) = go (test n) refl (least_of test f n)
  where
    at : (c : ℕ) → c < suc n → (c < n) ⊎ (c ≡ n)
    at c lt = elim (cases_lt c n) [ inl less ↦ inl less | inr ge ↦ inr (omega (arith, ge, lt)) ]

    go : (t : Bool) → test n ≡ t → ((c : ℕ) → c < n → test c ≡ false) ⊎ ((b : ℕ) × (b < n) × (test b ≡ true) × ((c : ℕ) → c < n → test c ≡ true → f b ≤ f c))
        → ((c : ℕ) → c < suc n → test c ≡ false) ⊎ ((b : ℕ) × (b < suc n) × (test b ≡ true) × ((c : ℕ) → c < suc n → test c ≡ true → f b ≤ f c))
    go false is (inl none) = inl (λ c lt. elim (at c lt) [ inl less ↦ none c less | inr same ↦ ap test same ∙ is ])
    go false is (inr (b, lt, passed, least)) =
        inr (b, omega (arith, lt), passed, λ c below passes. elim (at c below) [ inl less ↦ least c less passes | inr same ↦ absurd (true≢false (sym passes ∙ ap test same ∙ is)) ])
    go true is (inl none) =
        inr (n, omega arith, is, λ c below passes. elim (at c below) [ inl less ↦ absurd (true≢false (sym passes ∙ none c less)) | inr same ↦ let eq = ap f same in omega (arith, eq) ])
    go true is (inr (b, lt, passed, least)) =
        elim (cases_lt (f n) (f b)) [
          | inr ge ↦ inr (b, omega (arith, lt), passed, λ c below passes. elim (at c below) [ inl less ↦ least c less passes | inr same ↦ let eq = ap f same in omega (arith, eq, ge) ])
          | inl less ↦ inr (n, omega arith, is, λ c below passes. elim (at c below) [ inl under ↦ let le = least c under passes in omega (arith, le, less) | inr same ↦ let eq = ap f same in omega (arith, eq) ])
        ]

-- ---- the oldest entry is ready where it waits

-- no entry before it holds it back
first_is_clear : (o : Operation) (pc a b : ℕ) → is_clear_on [] o pc a b ≡ true
first_is_clear (Stops why) pc a b = refl
first_is_clear (Performs insn) pc a b = go (span_asked (effect_of insn pc a b))
  where
    go : (s : Option Span) → option_map_or (is_clear []) s true ≡ true
    go None = refl
    go (Some s) = refl

ready_first : (x : Context) (a b : ℕ) → 0 < length x.flight → is_queued (entry_at x 0).stage ≡ true → first_value x 0 ≡ Some a → second_value x 0 ≡ Some b → is_ready x 0 ≡ true
ready_first x a b lt queued first second =
    let there : nat_lt 0 (length x.flight) ≡ true = grind (arith, nat_tests, lt) in
    ap (λ t. t && is_queued (entry_at x 0).stage && is_ready_on x 0 (first_value x 0) (second_value x 0)) there
    ∙ ap (λ t. t && is_ready_on x 0 (first_value x 0) (second_value x 0)) queued
    ∙ ap (λ o. is_ready_on x 0 o (second_value x 0)) first
    ∙ ap (is_ready_on x 0 (Some a)) second
    ∙ first_is_clear (entry_at x 0).operation (entry_at x 0).pc a b

same_first : (x y : Context) → x.state ≡ y.state → entry_at x 0 ≡ entry_at y 0 → first_value x 0 ≡ first_value y 0
same_first x y states entries =
    ap (λ (s : State). source_value (seen_of s).registers (first_source_of (entry_at x 0).operation)) states
    ∙ ap (λ (e : Entry). source_value (seen_of y.state).registers (first_source_of e.operation)) entries

same_second : (x y : Context) → x.state ≡ y.state → entry_at x 0 ≡ entry_at y 0 → second_value x 0 ≡ second_value y 0
same_second x y states entries =
    ap (λ (s : State). source_value (seen_of s).registers (second_source_of (entry_at x 0).operation)) states
    ∙ ap (λ (e : Entry). source_value (seen_of y.state).registers (second_source_of e.operation)) entries

-- the sources of the oldest entry have values: those of the architectural registers
abbrev HasSources : Context → Type 0
HasSources x = (a : ℕ) × (b : ℕ) × (first_value x 0 ≡ Some a) × (second_value x 0 ≡ Some b)

known_source : (registers : List ℕ) (r : ℕ) → length registers ≡ 32 → r < 32 → (a : ℕ) × (source_value (known registers) r ≡ Some a)
known_source registers r wide lt = go (r == 0)
  where
    go : (t : Bool) → (a : ℕ) × ((if t then Some 0 else get_or (known registers) r None) ≡ Some a)
    go true = (0, refl)
    go false = (get_or registers r 0, get_or-map (λ (value : ℕ). Some value) registers r 0 None (omega (arith, wide, lt)))

sources_first : (x : Context) → length x.state.registers ≡ 32 → HasNarrowSources (entry_at x 0).operation → HasSources x
sources_first x wide narrow =
    let a = known_source x.state.registers (first_source_of (entry_at x 0).operation) wide narrow.0 in
    let b = known_source x.state.registers (second_source_of (entry_at x 0).operation) wide narrow.1 in
    (a.0, b.0, a.1, b.1)

-- past the end nothing waits, and nothing is renamed
waiting_there : (es : List Entry) → is_queued (get_or es 0 no_entry).stage ≡ true → 0 < length es
waiting_there [] is = absurd (let f : false ≡ true = is in cc)
waiting_there (e ∷ es) is = omega arith

renamed_there : (es : List Entry) → is_renamed (get_or es 0 no_entry).stage ≡ true → 0 < length es
renamed_there [] is = absurd (let f : false ≡ true = is in cc)
renamed_there (e ∷ es) is = omega arith

-- what waits isn't due
waiting_stays : (cycle : ℕ) (e : Entry) (s : Stage) → e.stage ≡ s → is_queued s ≡ true → completed_one cycle e ≡ e
waiting_stays cycle e Fetched at is = absurd cc
waiting_stays cycle e Queued at is = ap (λ s. completed_if (due_at cycle s) e) at
waiting_stays cycle e (Issued x) at is = absurd cc
waiting_stays cycle e (Done x) at is = absurd cc

completed_keeps_stamp : (cycle : ℕ) (e : Entry) → (completed_one cycle e).stamp ≡ e.stamp
completed_keeps_stamp cycle e = go (due_at cycle e.stage)
  where
    go : (d : Option Execution) → (completed_if d e).stamp ≡ e.stamp
    go None = refl
    go (Some x) = refl

-- ---- a lag

pub lag_most : (may : Kind → ℕ → Lag → Bool) (greatest : ℕ) (k : Kind) (a : ℕ) (o : Outcome) (lag : Lag) → 1 ≤ greatest → ((kind : Kind) (b : ℕ) (l : Lag) → IsTrue (may kind b l) → IsWithin greatest l) → IsLagOf may k a o lag → lag.cycles ≤ greatest
lag_most may greatest k a o lag some within h =
    elim (cases_Bool (is_access k && is_stop o)) [
      | inl stops ↦ let one = ap (λ (l : Lag). l.cycles) (h.stopping stops) in omega (arith, one, some)
      | inr goes ↦ (within k a lag (h.asked goes)).most
    ]

-- an issue that is in a list is found, or another that passes the test
find_some : (test : Issue → Bool) (ns : List Issue) (k : ℕ) → k < length ns → test (get_or ns k no_issue) ≡ true → (n : Issue) × (j : ℕ) × (j < length ns) × (get_or ns j no_issue ≡ n) × (find test ns ≡ Some n)
find_some test [] k lt is = absurd (omega (arith, lt))
find_some test (m ∷ ns) k lt is = go (test m) refl (find_some test ns)
  where
    later : test m ≡ false → (k : ℕ) → k < length (m ∷ ns) → test (get_or (m ∷ ns) k no_issue) ≡ true → (i : ℕ) × (i < length ns) × (test (get_or ns i no_issue) ≡ true)
    later out zero lt is = absurd (true≢false (sym is ∙ out))
    later out (suc i) lt is = (i, omega (arith, lt), is)

    behind : test m ≡ false → (n : Issue) × (j : ℕ) × (j < length ns) × (get_or ns j no_issue ≡ n) × (find test ns ≡ Some n) → (n : Issue) × (j : ℕ) × (j < length (m ∷ ns)) × (get_or (m ∷ ns) j no_issue ≡ n) × (find test (m ∷ ns) ≡ Some n)
    behind out (n, j, lj, at, found) = (n, suc j, omega (arith, lj), at, ap (λ t. cond t (Some m) (find test ns)) out ∙ found)

    go : (t : Bool) → test m ≡ t → ((i : ℕ) → i < length ns → test (get_or ns i no_issue) ≡ true → (n : Issue) × (j : ℕ) × (j < length ns) × (get_or ns j no_issue ≡ n) × (find test ns ≡ Some n))
        → (n : Issue) × (j : ℕ) × (j < length (m ∷ ns)) × (get_or (m ∷ ns) j no_issue ≡ n) × (find test (m ∷ ns) ≡ Some n)
    go true here rest = (m, 0, omega arith, refl, ap (λ t. cond t (Some m) (find test ns)) here)
    go false here rest = let at = later here k lt is in behind here (rest at.0 at.1 at.2)

pub is_id_of : (c k : ℕ) (n : EntryId) → n.context ≡ c → n.stamp ≡ k → is_id c k n ≡ true
is_id_of c k n context stamp =
    let a : (n.context == c) ≡ true = grind (arith, nat_tests, context) in
    let b : (n.stamp == k) ≡ true = grind (arith, nat_tests, stamp) in
    ap (λ t. t && (n.stamp == k)) a ∙ b

module _ (laws : Laws) (greatest : ℕ) (v w : View) (note : CycleNote) (h : IsLawfulCycle laws v w note) (still : IsStill v w note) (steady : IsSteady greatest v) where
  -- ---- a front that is issued

  issued_front : (c : ℕ) → c < 8 → 0 < length (flight_in v c) → (x : Execution) → (entry_at (context_in v c) 0).stage ≡ Issued x → distance greatest w < x.due - v.cycle + 2
  issued_front c lc lt x is = go (x.due == v.cycle) refl
    where
      e : Entry
      e = entry_at (context_in v c) 0

      due : v.cycle ≤ x.due
      due = subst (IsDueFrom v.cycle) is (steady.timely c 0 lc lt).due

      go : (b : Bool) → (x.due == v.cycle) ≡ b → distance greatest w < x.due - v.cycle + 2
      go true same =
          let done : completed_one v.cycle (entry_at (context_in v c) 0) ≡ completed_entry (entry_at (context_in v c) 0) x =
          ap (λ s. completed_if (due_at v.cycle s) (entry_at (context_in v c) 0)) is ∙ ap (λ b. completed_if (if b then Some x else None) (entry_at (context_in v c) 0)) same in
          let last = front_past laws greatest v w note h still steady c lc lt (completed_entry (entry_at (context_in v c) 0) x) done refl refl in
          let wait : front_wait w.cycle (flight_in w c) ≡ Some 1 = front_wait_at w.cycle (flight_in w c) last.0 ∙ ap (λ (f : Entry). stage_wait w.cycle f.stage) last.1 in
          let le = front_bounds greatest w c 1 lc wait in
          omega (arith, le)
      go false other =
          let kept : completed_one v.cycle (entry_at (context_in v c) 0) ≡ entry_at (context_in v c) 0 =
          ap (λ s. completed_if (due_at v.cycle s) (entry_at (context_in v c) 0)) is ∙ ap (λ b. completed_if (if b then Some x else None) (entry_at (context_in v c) 0)) other in
          let last = front_past laws greatest v w note h still steady c lc lt (entry_at (context_in v c) 0) kept (ap is_queued is) (ap is_renamed is) in
          let wait : front_wait w.cycle (flight_in w c) ≡ Some (x.due - w.cycle + 2) = front_wait_at w.cycle (flight_in w c) last.0 ∙ ap (λ (f : Entry). stage_wait w.cycle f.stage) last.1 ∙ ap (stage_wait w.cycle) is in
          let later : v.cycle < x.due = grind (arith, nat_tests, other, due) in
          let le = front_bounds greatest w c (x.due - w.cycle + 2) lc wait in
          let next = next_cycle laws greatest v w note h still steady in
          omega (arith, le, later, next)

  pub nearer_front : (c k : ℕ) → c < 8 → front_wait v.cycle (flight_in v c) ≡ Some k → distance greatest w < k
  nearer_front c k lc is =
      let at = front_waits v.cycle (flight_in v c) k is in
      go at.0 (entry_at (context_in v c) 0).stage refl at.1
    where
      go : 0 < length (flight_in v c) → (s : Stage) → (entry_at (context_in v c) 0).stage ≡ s → stage_wait v.cycle s ≡ Some k → distance greatest w < k
      go lt Fetched at waits = absurd cc
      go lt Queued at waits = absurd cc
      go lt (Issued x) at waits = let same : x.due - v.cycle + 2 ≡ k = cc in let less = issued_front c lc lt x at in omega (arith, same, less)
      go lt (Done x) at waits = let bad : true ≡ false = sym (ap is_done at) ∙ no_front_done laws greatest v w note h still steady c lc lt in absurd cc

  -- ---- fronts that wait

  abbrev waits : ℕ → Bool
  waits c = is_queued (entry_at (context_in v c) 0).stage

  -- where no front is issued or done, what is renamed in front waits
  renamed_waits : ((c k : ℕ) → c < 8 → front_wait v.cycle (flight_in v c) ≡ Some k → greatest + 2 ≤ k) → (c : ℕ) → c < 8 → renamed_at v c 0 ≡ true → waits c ≡ true
  renamed_waits none c lc is = go (entry_at (context_in v c) 0).stage refl (ap (λ s. s) is)
    where
      lt : 0 < length (flight_in v c)
      lt = renamed_there (flight_in v c) is

      go : (s : Stage) → (entry_at (context_in v c) 0).stage ≡ s → is_renamed (entry_at (context_in v c) 0).stage ≡ true → is_queued (entry_at (context_in v c) 0).stage ≡ true
      go Fetched at renamed = absurd (true≢false (sym renamed ∙ ap is_renamed at))
      go Queued at renamed = ap is_queued at
      go (Issued x) at renamed =
          let few = none c (x.due - v.cycle + 2) lc (front_wait_at v.cycle (flight_in v c) lt ∙ ap (stage_wait v.cycle) at) in
          let before : x.due < v.cycle + greatest = subst (IsDueBefore (v.cycle + greatest)) at (steady.soon c 0 lc lt) in
          let due : v.cycle ≤ x.due = subst (IsDueFrom v.cycle) at (steady.timely c 0 lc lt).due in
          absurd (omega (arith, few, before, due))
      go (Done x) at renamed =
          let few = none c 1 lc (front_wait_at v.cycle (flight_in v c) lt ∙ ap (stage_wait v.cycle) at) in
          absurd (omega (arith, few))

  waiting_completed : (c : ℕ) → c < 8 → waits c ≡ true → entry_at (context_in h.completed c) 0 ≡ entry_at (context_in v c) 0
  waiting_completed c lc is =
      front_completed laws greatest v w note h still steady c lc (waiting_there (flight_in v c) is)
      ∙ waiting_stays v.cycle (entry_at (context_in v c) 0) (entry_at (context_in v c) 0).stage refl is

  abbrev front : ℕ → Place
  front c = record { context = c; place = 0 }

  waiting_ready : (c : ℕ) → c < 8 → waits c ≡ true → IsReadyIn h.completed (front c)
  waiting_ready c lc is =
      let lt = waiting_there (flight_in v c) is in
      let same = waiting_completed c lc is in
      let state : (context_in h.completed c).state ≡ (context_in v c).state = ap (λ (x : Context). x.state) (h.complete.contexts.contexts.each c lc).is ∙ (stays laws greatest v w note h still steady c lc).1 in
      let sources = sources_first (context_in v c) (steady.wide c lc) (steady.narrow c 0 lc lt) in (
        lc,
        ready_first (context_in h.completed c) sources.0 sources.1 (some_completed laws greatest v w note h still steady c lc lt) (ap (λ (e : Entry). is_queued e.stage) same ∙ is)
            (same_first (context_in h.completed c) (context_in v c) state same ∙ sources.2)
            (same_second (context_in h.completed c) (context_in v c) state same ∙ sources.3),
      )

  completed_order : AreInOrder h.completed
  completed_order = complete_order h.retired h.completed note.completed h.complete (retire_order v h.retired note.retired.items h.retire steady.in_order)

  -- a context of which an entry waits after Complete has a renamed front before it
  front_renamed : (c i : ℕ) → c < 8 → i < length (flight_in h.completed c) → is_queued (entry_at (context_in h.completed c) i).stage ≡ true → renamed_at v c 0 ≡ true
  front_renamed c i lc li is =
      let renamed : renamed_at h.completed c i ≡ true = queued_is_renamed (entry_at (context_in h.completed c) i).stage is in
      let first : renamed_at h.completed c 0 ≡ true =
      elim (cases_lt 0 i) [
        | inl less ↦ completed_order c 0 i lc less li renamed
        | inr le ↦ let zero_is : i ≡ 0 = omega (arith, le) in subst (λ j. renamed_at h.completed c j ≡ true) zero_is renamed
      ] in
      let there = completed_at_place h.retired.cycle (length (flight_in h.completed c)) (context_in h.retired c) (context_in h.completed c) (h.complete.contexts.contexts.each c lc) 0 (omega (arith, li)) in
      let within = there.0 in
      let same : length (flight_in h.retired c) ≡ length (flight_in v c) = ap (λ (es : List Entry). length es) (stays laws greatest v w note h still steady c lc).0 in
      let e : Entry = entry_at (context_in v c) 0 in
      sym (completed_renamed v.cycle e e.stage refl)
      ∙ ap (λ (f : Entry). is_renamed f.stage) (sym (front_completed laws greatest v w note h still steady c lc (omega (arith, within, same))))
      ∙ first

  -- a front that waits issues
  abbrev SomeIssues : Type 0
  SomeIssues = (d : ℕ) × (d < 8) × (waits d ≡ true) × Contains h.issue.chosen (front d)

  one_issues : PutsSureFirst laws.order → ((c : ℕ) → c < 8 → renamed_at v c 0 ≡ true → waits c ≡ true) → (c : ℕ) → c < 8 → waits c ≡ true → ((d : ℕ) → d < 8 → waits d ≡ true → stamp_at v c 0 ≤ stamp_at v d 0) → SomeIssues
  one_issues sure each c lc is least =
      elim (among_or_not same_or_not (front c) h.issue.chosen) [
        | inl there ↦ (c, lc, is, there)
        | inr out ↦
            let ready = waiting_ready c lc is in
            let full = h.issue.used_up (front c) ready out in
            let count = count_chosen laws.order laws.delays h.completed h.issued note.issued.items h.issue in
            let wide = h.completed.profile.issue_width_in_range.0 in
            let some : 0 < length h.issue.chosen = omega (arith, full, count, wide) in
            let q : Place = get_or h.issue.chosen 0 no_place in
            of_first q refl some (h.issue.ready 0 no_place some) (h.issue.first (front c) ready out 0 no_place some)
      ]
    where
      of_first : (q : Place) → get_or h.issue.chosen 0 no_place ≡ q → 0 < length h.issue.chosen → IsReadyIn h.completed q → IsNotAfter laws.order h.completed q (front c) → SomeIssues
      of_first q at some ready before =
          let ld : q.context < 8 = ready.0 in
          let li = ready_within h.completed q ready in
          let waiting = ready_queued h.completed q ready in
          let stands : waits q.context ≡ true = each q.context ld (front_renamed q.context q.place ld li waiting) in
          let key_le = before.0 in
          let key_ge = sure (queue_view h.completed (front c)) (queue_view h.completed q) refl in
          let stamp_le = before.1 (omega (arith, key_le, key_ge)) in
          let here : stamp_at h.completed c 0 ≡ stamp_at v c 0 = ap (λ (e : Entry). e.stamp) (waiting_completed c lc is) in
          let there : stamp_at h.completed q.context 0 ≡ stamp_at v q.context 0 = ap (λ (e : Entry). e.stamp) (waiting_completed q.context ld stands) in
          let less = least q.context ld stands in
          let place : q.place ≡ 0 =
          elim (cases_lt 0 q.place) [
            | inr le ↦ omega (arith, le)
            | inl more ↦ let grows = (completed_stamped laws greatest v w note h still steady).growing q.context 0 q.place ld more li in absurd (omega (arith, grows, stamp_le, here, there, less))
          ] in (
            q.context,
            ld,
            stands,
            (0, some, get_or_default h.issue.chosen 0 (front q.context) no_place some ∙ at ∙ join_place q.context q.context q.place 0 refl place),
          )

  -- its lag is at most the greatest
  issues_soon : AreLagsWithin laws greatest → SomeIssues → distance greatest w < greatest + 2
  issues_soon lags (d, ld, is, (k, lk, at)) =
      let lt = waiting_there (flight_in v d) is in
      let ns : List Issue = note.issued.items in
      let count = count_chosen laws.order laws.delays h.completed h.issued ns h.issue in
      let e : Entry = entry_at (context_in h.completed d) 0 in
      let place : get_or h.issue.chosen k no_place ≡ front d = get_or_default h.issue.chosen k no_place (front d) lk ∙ at in
      let name : (get_or ns k no_issue).entry ≡ id_in h.completed (front d) =
      sym (get_or-map (λ (n : Issue). n.entry) ns k no_issue no_issue.entry (omega (arith, lk, count)))
      ∙ ap (λ (is : List EntryId). get_or is k no_issue.entry) h.issue.names
      ∙ get_or-map (id_in h.completed) h.issue.chosen k no_place no_issue.entry lk
      ∙ ap (id_in h.completed) place in
      let named : is_id d e.stamp (get_or ns k no_issue).entry ≡ true = is_id_of d e.stamp (get_or ns k no_issue).entry (ap (λ (n : EntryId). n.context) name) (ap (λ (n : EntryId). n.stamp) name) in
      let found = find_some (λ n. is_id d e.stamp n.entry) ns k (omega (arith, lk, count)) named in
      let n : Issue = found.0 in
      let lag = lag_most (laws.delays (get_or h.issue.chosen found.1 no_place).context) greatest _ _ _ (record { cycles = (get_or ns found.1 no_issue).latency; miss = (get_or ns found.1 no_issue).miss }) lags.some (lags.within (get_or h.issue.chosen found.1 no_place).context) (h.issue.lags found.1 found.2) in
      let latency : (get_or ns found.1 no_issue).latency ≡ n.latency = ap (λ (m : Issue). m.latency) found.3 in
      due_soon n found.4 (omega (arith, lag, latency)) lt
    where
      due_soon : (n : Issue) → issue_of d (entry_at (context_in h.completed d) 0) note.issued.items ≡ Some n → n.latency ≤ greatest → 0 < length (flight_in v d) → distance greatest w < greatest + 2
      due_soon n issued few lt =
          let stage : (entry_at (context_in h.issued d) 0).stage ≡ Issued (record { due = h.completed.cycle + n.latency; miss = n.miss; outcome = _ }) =
          ap (λ (e : Entry). e.stage) (front_issued laws greatest v w note h still steady d ld lt)
          ∙ ap (λ o. (issued_if h.completed.cycle (context_in h.completed d) 0 (entry_at (context_in h.completed d) 0) o).stage) issued in
          let last = front_last laws greatest v w note h still steady d ld lt (ap is_renamed stage) in
          let wait : front_wait w.cycle (flight_in w d) ≡ Some (h.completed.cycle + n.latency - w.cycle + 2) =
          front_wait_at w.cycle (flight_in w d) last.0 ∙ ap (λ (e : Entry). stage_wait w.cycle e.stage) last.1 ∙ ap (stage_wait w.cycle) stage in
          let le = front_bounds greatest w d (h.completed.cycle + n.latency - w.cycle + 2) ld wait in
          let next = next_cycle laws greatest v w note h still steady in
          let same = cycle_completed laws greatest v w note h still steady in
          let some = few_is in
          omega (arith, le, next, same, few, some)
        where
          few_is : 1 ≤ greatest
          few_is = lags.some

  pub nearer_renamed : PutsSureFirst laws.order → AreLagsWithin laws greatest → ((c k : ℕ) → c < 8 → front_wait v.cycle (flight_in v c) ≡ Some k → greatest + 2 ≤ k) → has_renamed v ≡ true → distance greatest w < greatest + 2
  nearer_renamed sure lags none some =
      elim (least_of waits (λ c. stamp_at v c 0) 8) [
        | inr (c, lc, is, least) ↦ issues_soon lags (one_issues sure (renamed_waits none) c lc is least)
        | inl nobody ↦
            let at = where_renamed v some in
            let c : ℕ = at.0 in
            let i : ℕ = at.1 in
            let first : renamed_at v c 0 ≡ true =
            elim (cases_lt 0 i) [
              | inl less ↦ steady.in_order c 0 i at.2 less at.3 at.4
              | inr le ↦ let zero_is : i ≡ 0 = omega (arith, le) in subst (λ j. renamed_at v c j ≡ true) zero_is at.4
            ] in
            absurd (true≢false (sym (renamed_waits none c at.2 first) ∙ nobody c at.2))
      ]
