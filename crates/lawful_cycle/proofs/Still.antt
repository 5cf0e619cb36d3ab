-- A lawful cycle in which nothing retires, stops or parks: what it leaves of the flights, and of their fronts.
use Rattle.std.proofs.Common.{◌≡◌, ℕ, ◌+◌, ◌<◌, true, false, List, [], ◌∷◌, length, drop, get_or, Some, refl, sym, ap, ◌∙◌, arith, inl, inr}
use Rattle.std.proofs.lemmas.Bool.{cases_Bool}
use Rattle.std.proofs.lemmas.List.{length-map}
use Rattle.hart_step.specs.Next.{after}
use Rattle.core_view.specs.declared.entry.Entry.{Entry}
use Rattle.core_view.specs.declared.note.EntryId.{EntryId}
use Rattle.core_view.specs.declared.note.CycleNote.{CycleNote}
use Rattle.core_view.specs.declared.status.Status.{Status}
use Rattle.core_view.specs.declared.status.Status.TheVariants.{Running, Parked, Stopped}
use Rattle.core_view.specs.Flight.{is_done, is_queued}
use Rattle.core_view.specs.Queues.{is_renamed}
use Rattle.core_view.specs.Events.{completed_one}
use Rattle.core_view.specs.View.{Context, View, entry_at, no_entry}
use Rattle.lawful_cycle.specs.Views.{context_in, number_in, stamps_in}
use Rattle.lawful_cycle.specs.Retire.{status_past, flight_if, is_front_done, RetiresBy}
use Rattle.lawful_cycle.specs.Issue.{issue_of, issued_if}
use Rattle.lawful_cycle.specs.Rename.{renamed_if, renamed_context}
use Rattle.lawful_cycle.specs.Fetch.{is_running}
use Rattle.lawful_cycle.specs.Cycle.{Laws, IsLawfulCycle}
use Rattle.lawful_cycle.specs.Stamps.{flight_in, IsStamped}
use Rattle.lawful_cycle.specs.Distance.{stage_wait, front_wait, IsStill, IsSteady}
use Rattle.lawful_cycle.proofs.SameViews.{renamed_in}
use Rattle.lawful_cycle.proofs.KeptStamps.{retire_stamped, complete_stamped, issue_stamped}
use Rattle.lawful_cycle.proofs.OldestFetched.{not_queued_not_issued}
use Rattle.lawful_cycle.proofs.Places.{completed_at_place, issued_length, issued_at_place, kept_at_place}
use Rattle.lawful_cycle.proofs.KeptOrder.{renamed_at, own_stamps, renamed_stays}

-- ---- fronts, by place 0

pub front_wait_at : (cycle : ℕ) (es : List Entry) → 0 < length es → front_wait cycle es ≡ stage_wait cycle (get_or es 0 no_entry).stage
front_wait_at cycle [] lt = absurd (omega (arith, lt))
front_wait_at cycle (e ∷ es) lt = refl

pub front_waits : (cycle : ℕ) (es : List Entry) (k : ℕ) → front_wait cycle es ≡ Some k → (0 < length es) × (stage_wait cycle (get_or es 0 no_entry).stage ≡ Some k)
front_waits cycle [] k is = absurd cc
front_waits cycle (e ∷ es) k is = (omega arith, is)

front_done_at : (es : List Entry) → 0 < length es → is_front_done es ≡ is_done (get_or es 0 no_entry).stage
front_done_at [] lt = absurd (omega (arith, lt))
front_done_at (e ∷ es) lt = refl

runs_where : (s : Status) → is_running s ≡ true → s ≡ Running
runs_where Running is = refl
runs_where Parked is = absurd cc
runs_where (Stopped why) is = absurd cc

empty_length : (es : List Entry) → es ≡ [] → length es ≡ 0
empty_length es is = ap (λ (fs : List Entry). length fs) is

module _ (laws : Laws) (greatest : ℕ) (v w : View) (note : CycleNote) (h : IsLawfulCycle laws v w note) (still : IsStill v w note) (steady : IsSteady greatest v) where
  -- ---- views between the parts

  pub next_cycle : w.cycle ≡ v.cycle + 1
  next_cycle =
      let a = ap (λ (u : View). u.cycle) h.next in
      let b = h.fetch.cycle in
      let c = ap (λ (u : View). u.cycle) h.rename.is in
      let d = h.issue.contexts.cycle in
      let e = h.complete.contexts.cycle in
      let f = h.retire.contexts.cycle in
      omega (arith, a, b, c, d, e, f)

  pub same_profile_issued : h.completed.profile ≡ v.profile
  same_profile_issued = h.complete.contexts.profile ∙ h.retire.contexts.profile

  pub same_profile_renamed : h.issued.profile ≡ v.profile
  same_profile_renamed = h.issue.contexts.profile ∙ same_profile_issued

  pub same_profile_fetched : h.renamed.profile ≡ v.profile
  same_profile_fetched = ap (λ (u : View). u.profile) h.rename.is ∙ same_profile_renamed

  pub same_profile : w.profile ≡ v.profile
  same_profile = ap (λ (u : View). u.profile) h.next ∙ h.fetch.profile ∙ same_profile_fetched

  pub cycle_completed : h.completed.cycle ≡ v.cycle
  cycle_completed = h.complete.contexts.cycle ∙ h.retire.contexts.cycle

  pub cycle_issued : h.issued.cycle ≡ v.cycle
  cycle_issued = h.issue.contexts.cycle ∙ cycle_completed

  pub cycle_renamed : h.renamed.cycle ≡ v.cycle
  cycle_renamed = ap (λ (u : View). u.cycle) h.rename.is ∙ cycle_issued

  pub renamed_context_is : (c : ℕ) → c < 8 → context_in h.renamed c ≡ renamed_context h.issued.cycle note.renamed.items c (context_in h.issued c)
  renamed_context_is c lc = ap (λ (u : View). context_in u c) h.rename.is ∙ renamed_in h.issued note.renamed.items c lc

  pub last_context : (c : ℕ) → context_in w c ≡ context_in h.fetched c
  last_context c = ap (λ (u : View). context_in u c) h.next

  -- ---- statuses change in Retire alone

  pub status_renamed : (c : ℕ) → c < 8 → (context_in h.renamed c).status ≡ (context_in h.retired c).status
  status_renamed c lc =
      ap (λ (x : Context). x.status) (renamed_context_is c lc)
      ∙ ap (λ (x : Context). x.status) (h.issue.contexts.contexts.each c lc)
      ∙ ap (λ (x : Context). x.status) (h.complete.contexts.contexts.each c lc).is

  status_last : (c : ℕ) → c < 8 → (context_in w c).status ≡ (context_in h.retired c).status
  status_last c lc =
      ap (λ (x : Context). x.status) (last_context c)
      ∙ ap (λ (x : Context). x.status) (h.fetch.contexts.each c lc).older
      ∙ status_renamed c lc

  pub still_runs : (c : ℕ) → c < 8 → (context_in v c).status ≡ Running → (context_in h.retired c).status ≡ Running
  still_runs c lc is = sym (status_last c lc) ∙ still.running c lc is

  -- ---- nothing retires: flights and states stay

  none_of : (c : ℕ) → number_in c note.retired.items ≡ 0
  none_of c = ap (number_in c) still.retired

  abbrev StaysAs : Context → Context → Type 0
  StaysAs x y = (y.flight ≡ x.flight) × (y.state ≡ x.state)

  stays_as : (n : ℕ) (x y : Context) (s : Status) → x.status ≡ s → n ≡ 0 → RetiresBy n x y s → (s ≡ Running → y.status ≡ Running) → StaysAs x y
  stays_as n x y Running at none a runs = (flight, state)
    where
      running : status_past x n ≡ Running
      running = sym (ap (λ (u : Context). u.status) a.is) ∙ runs refl

      flight : y.flight ≡ x.flight
      flight = ap (λ (u : Context). u.flight) a.is ∙ ap (λ s. flight_if s (drop n x.flight)) running ∙ ap (λ k. drop k x.flight) none

      state : y.state ≡ x.state
      state = let is : Some y.state ≡ Some x.state = sym a.state ∙ ap (λ k. after k x.state) none in cc
  stays_as n x y Parked at none a runs = (ap (λ (u : Context). u.flight) a.1, ap (λ (u : Context). u.state) a.1)
  stays_as n x y (Stopped why) at none a runs = (ap (λ (u : Context). u.flight) a.1, ap (λ (u : Context). u.state) a.1)

  pub stays : (c : ℕ) → c < 8 → StaysAs (context_in v c) (context_in h.retired c)
  stays c lc =
      stays_as (number_in c note.retired.items) (context_in v c) (context_in h.retired c) (context_in v c).status refl (none_of c) (h.retire.contexts.contexts.each c lc)
      (still_runs c lc)

  pub runs_in_flight : (c : ℕ) → c < 8 → 0 < length (flight_in v c) → (context_in v c).status ≡ Running
  runs_in_flight c lc lt =
      elim (cases_Bool (is_running (context_in v c).status)) [
        | inl is ↦ runs_where (context_in v c).status is
        | inr out ↦ let none = empty_length (flight_in v c) (steady.resting c lc out) in absurd (omega (arith, lt, none))
      ]

  -- ---- no front is done

  pub no_front_done : (c : ℕ) → c < 8 → 0 < length (flight_in v c) → is_done (entry_at (context_in v c) 0).stage ≡ false
  no_front_done c lc lt =
      elim (cases_Bool (is_done (entry_at (context_in v c) 0).stage)) [
        | inr out ↦ out
        | inl is ↦
            let done : is_front_done (flight_in h.retired c) ≡ true = ap is_front_done (stays c lc).0 ∙ front_done_at (flight_in v c) lt ∙ is in
            let full = h.retire.used_up c lc (record { running = still_runs c lc (runs_in_flight c lc lt); done = done }) in
            let none : length note.retired.items ≡ 0 = ap (λ (ids : List EntryId). length ids) still.retired in
            let wide = v.profile.retire_width_in_range.0 in
            absurd (omega (arith, full, none, wide))
      ]

  -- ---- fronts stay in front

  pub retired_stamped : IsStamped h.retired
  retired_stamped = retire_stamped v h.retired note.retired.items h.retire steady.stamped

  pub completed_stamped : IsStamped h.completed
  completed_stamped = complete_stamped h.retired h.completed note.completed h.complete retired_stamped

  pub issued_stamped : IsStamped h.issued
  issued_stamped = issue_stamped laws.order laws.delays h.completed h.issued note.issued.items h.issue completed_stamped

  same_front : (c : ℕ) → c < 8 → entry_at (context_in h.retired c) 0 ≡ entry_at (context_in v c) 0
  same_front c lc = ap (λ (es : List Entry). get_or es 0 no_entry) (stays c lc).0

  pub some_completed : (c : ℕ) → c < 8 → 0 < length (flight_in v c) → 0 < length (flight_in h.completed c)
  some_completed c lc lt =
      let same : length (flight_in h.retired c) ≡ length (flight_in v c) = ap (λ (es : List Entry). length es) (stays c lc).0 in
      elim (h.complete.contexts.contexts.each c lc).cut.named [
        | inl all ↦ omega (arith, all, same, lt)
        | inr (i, less, named) ↦ omega (arith, less)
      ]

  pub front_completed : (c : ℕ) → c < 8 → 0 < length (flight_in v c) → entry_at (context_in h.completed c) 0 ≡ completed_one v.cycle (entry_at (context_in v c) 0)
  front_completed c lc lt =
      (completed_at_place h.retired.cycle (length (flight_in h.completed c)) (context_in h.retired c) (context_in h.completed c) (h.complete.contexts.contexts.each c lc) 0 (some_completed c lc lt)).1
      ∙ ap (λ k. completed_one k (entry_at (context_in h.retired c) 0)) h.retire.contexts.cycle
      ∙ ap (completed_one v.cycle) (same_front c lc)

  length_issued : (c : ℕ) → c < 8 → length (flight_in h.issued c) ≡ length (flight_in h.completed c)
  length_issued c lc =
      ap (λ (x : Context). length x.flight) (h.issue.contexts.contexts.each c lc)
      ∙ issued_length h.completed.cycle c note.issued.items (context_in h.completed c) 0 (flight_in h.completed c)

  pub some_issued : (c : ℕ) → c < 8 → 0 < length (flight_in v c) → 0 < length (flight_in h.issued c)
  some_issued c lc lt = let same = length_issued c lc in let some = some_completed c lc lt in omega (arith, same, some)

  pub front_issued : (c : ℕ) → c < 8 → 0 < length (flight_in v c)
      → entry_at (context_in h.issued c) 0 ≡ issued_if h.completed.cycle (context_in h.completed c) 0 (entry_at (context_in h.completed c) 0) (issue_of c (entry_at (context_in h.completed c) 0) note.issued.items)
  front_issued c lc lt = (issued_at_place h.completed.cycle c note.issued.items (context_in h.completed c) (context_in h.issued c) (h.issue.contexts.contexts.each c lc) 0 (some_issued c lc lt)).1

  pub length_renamed : (c : ℕ) → c < 8 → length (flight_in h.renamed c) ≡ length (flight_in h.issued c)
  length_renamed c lc = ap (λ (x : Context). length x.flight) (renamed_context_is c lc) ∙ length-map (flight_in h.issued c) (renamed_if h.issued.cycle c note.renamed.items)

  -- what stands in front and is renamed after Issue does so after the cycle
  pub front_last : (c : ℕ) → c < 8 → 0 < length (flight_in v c) → renamed_at h.issued c 0 ≡ true → (0 < length (flight_in w c)) × (entry_at (context_in w c) 0 ≡ entry_at (context_in h.issued c) 0)
  front_last c lc lt is =
      let some = some_issued c lc lt in
      let same = length_renamed c lc in
      let block = h.fetch.contexts.each c lc in
      let count = block.count in
      let last : length (flight_in w c) ≡ length (flight_in h.fetched c) = ap (λ (x : Context). length x.flight) (last_context c) in (
        omega (arith, some, same, count, last),
        ap (λ (x : Context). entry_at x 0) (last_context c)
            ∙ kept_at_place (laws.guesses c) h.renamed.cycle (stamps_in c note.fetched.items) (context_in h.renamed c) (context_in h.fetched c) block 0 (omega (arith, some, same))
            ∙ ap (λ (u : View). entry_at (context_in u c) 0) h.rename.is
            ∙ renamed_stays h.issued note.renamed.items h.rename.each issued_stamped c 0 lc some is,
      )

  -- a front that is issued or done once entries have completed stays as it is
  pub front_past : (c : ℕ) → c < 8 → 0 < length (flight_in v c) → (e : Entry) → completed_one v.cycle (entry_at (context_in v c) 0) ≡ e → is_queued e.stage ≡ false → is_renamed e.stage ≡ true
      → (0 < length (flight_in w c)) × (entry_at (context_in w c) 0 ≡ e)
  front_past c lc lt e is out renamed =
      let some = some_completed c lc lt in
      let here : entry_at (context_in h.completed c) 0 ≡ e = front_completed c lc lt ∙ is in
      let none = not_queued_not_issued laws.order laws.delays h.completed h.issued note.issued.items h.issue c lc (own_stamps h.completed completed_stamped c lc) 0 some (ap (λ (f : Entry). is_queued f.stage) here ∙ out) in
      let issued : entry_at (context_in h.issued c) 0 ≡ e = front_issued c lc lt ∙ ap (issued_if h.completed.cycle (context_in h.completed c) 0 (entry_at (context_in h.completed c) 0)) none ∙ here in
      let last = front_last c lc lt (ap (λ (f : Entry). is_renamed f.stage) issued ∙ renamed) in
      (last.0, last.1 ∙ issued)
