-- Younger entries were not fetched earlier, so the oldest fetched entry of all is the one that has waited longest.
use Rattle.std.proofs.Common.{◌≡◌, ℕ, ◌+◌, ◌-◌, ◌<◌, ◌≤◌, Bool, true, false, not, List, length, Option, Some, None, refl, sym, ap, ◌∙◌, subst, arith, inl, inr}
use Rattle.std.specs.Prelude.{◌⊎◌, if◌then◌else◌}
use Rattle.std.specs.List.{list_any}
use Rattle.std.proofs.lemmas.Bool.{cases_lt}
use Rattle.core_view.specs.declared.entry.Execution.{Execution}
use Rattle.core_view.specs.declared.entry.Entry.{Entry}
use Rattle.core_view.specs.declared.note.EntryId.{EntryId}
use Rattle.core_view.specs.declared.note.Issue.{Issue}
use Rattle.core_view.specs.declared.note.CycleNote.{CycleNote}
use Rattle.core_view.specs.Queues.{is_renamed}
use Rattle.core_view.specs.Events.{due_at, completed_if, completed_one, with_stage, renamed_stage}
use Rattle.core_view.specs.View.{Context, View, entry_at}
use Rattle.lawful_cycle.specs.Views.{context_in, is_id, number_in, stamps_in}
use Rattle.lawful_cycle.specs.Issue.{issue_of, issued_if}
use Rattle.lawful_cycle.specs.Rename.{renamed_if, renamed_context, oldest_fetched}
use Rattle.lawful_cycle.specs.Cycle.{Laws, IsLawfulCycle}
use Rattle.lawful_cycle.specs.Stamps.{flight_in, stamp_at, IsStamped}
use Rattle.lawful_cycle.specs.Timing.{AreTimely}
use Rattle.lawful_cycle.proofs.SameViews.{renamed_in}
use Rattle.lawful_cycle.proofs.Stamped.{found_at}
use Rattle.lawful_cycle.specs.Entries.{HoldsOfEach}
use Rattle.lawful_cycle.proofs.KeptEntries.{retire_keeps, complete_keeps, issue_keeps, rename_keeps}
use Rattle.lawful_cycle.proofs.KeptStamps.{was_or_is_new, retire_stamped, complete_stamped, issue_stamped, rename_stamped}
use Rattle.lawful_cycle.proofs.Places.{retired_at, completed_at_place, issued_at_place, renamed_at_place, kept_at_place}

abbrev pub fetched_at : View → ℕ → ℕ → ℕ
fetched_at v c i = (entry_at (context_in v c) i).fetched

-- what has no greater stamp was fetched no later
abbrev pub AreDated : View → Type 0
AreDated v = (c d i j : ℕ) → c < 8 → d < 8 → i < length (flight_in v c) → j < length (flight_in v d) → stamp_at v c i ≤ stamp_at v d j → fetched_at v c i ≤ fetched_at v d j

-- each entry of w has stamp and cycle of one of v, so many places on
dated_through : (v w : View) (skip : ℕ → ℕ) → ((c i : ℕ) → c < 8 → i < length (flight_in w c) → (skip c + i < length (flight_in v c)) × (stamp_at w c i ≡ stamp_at v c (skip c + i)) × (fetched_at w c i ≡ fetched_at v c (skip c + i))) → AreDated v → AreDated w
dated_through v w skip from h c d i j lc ld li lj le =
    let a = from c i lc li in
    let b = from d j ld lj in
    let sa = a.1 in
    let sb = b.1 in
    let fa = a.2 in
    let fb = b.2 in
    let before = h c d (skip c + i) (skip d + j) lc ld a.0 b.0 (omega (arith, le, sa, sb)) in
    omega (arith, before, fa, fb)

-- in its place
dated_kept : (v w : View) → ((c i : ℕ) → c < 8 → i < length (flight_in w c) → (i < length (flight_in v c)) × (stamp_at w c i ≡ stamp_at v c i) × (fetched_at w c i ≡ fetched_at v c i)) → AreDated v → AreDated w
dated_kept v w from h c d i j lc ld li lj le =
    let a = from c i lc li in
    let b = from d j ld lj in
    let sa = a.1 in
    let sb = b.1 in
    let fa = a.2 in
    let fb = b.2 in
    let before = h c d i j lc ld a.0 b.0 (omega (arith, le, sa, sb)) in
    omega (arith, before, fa, fb)

completed_both : (cycle : ℕ) (e : Entry) → ((completed_one cycle e).stamp ≡ e.stamp) × ((completed_one cycle e).fetched ≡ e.fetched)
completed_both cycle e = go (due_at cycle e.stage)
  where
    go : (d : Option Execution) → ((completed_if d e).stamp ≡ e.stamp) × ((completed_if d e).fetched ≡ e.fetched)
    go None = (refl, refl)
    go (Some x) = (refl, refl)

issued_both : (cycle : ℕ) (x : Context) (i : ℕ) (e : Entry) (o : Option Issue) → ((issued_if cycle x i e o).stamp ≡ e.stamp) × ((issued_if cycle x i e o).fetched ≡ e.fetched)
issued_both cycle x i e None = (refl, refl)
issued_both cycle x i e (Some n) = (refl, refl)

renamed_both : (cycle c : ℕ) (ids : List EntryId) (e : Entry) → ((renamed_if cycle c ids e).stamp ≡ e.stamp) × ((renamed_if cycle c ids e).fetched ≡ e.fetched)
renamed_both cycle c ids e = go (list_any (is_id c e.stamp) ids)
  where
    go : (t : Bool) → ((if t then with_stage e (renamed_stage cycle e.operation) else e).stamp ≡ e.stamp) × ((if t then with_stage e (renamed_stage cycle e.operation) else e).fetched ≡ e.fetched)
    go true = (refl, refl)
    go false = (refl, refl)

module _ (laws : Laws) (v w : View) (note : CycleNote) (h : IsLawfulCycle laws v w note) (stamped : IsStamped h.renamed) (timely : (c i : ℕ) → c < 8 → i < length (flight_in h.renamed c) → fetched_at h.renamed c i ≤ h.renamed.cycle) where
  retired_dated : AreDated v → AreDated h.retired
  retired_dated =
      dated_through v h.retired (λ c. number_in c note.retired.items)
      (λ c i lc lt.
      let at = retired_at (number_in c note.retired.items) (context_in v c) (context_in h.retired c) (context_in v c).status (h.retire.contexts.contexts.each c lc) i lt in
      (at.0, ap (λ (e : Entry). e.stamp) at.1, ap (λ (e : Entry). e.fetched) at.1))

  completed_dated : AreDated h.retired → AreDated h.completed
  completed_dated =
      dated_kept h.retired h.completed
      (λ c i lc lt.
      let at = completed_at_place h.retired.cycle (length (flight_in h.completed c)) (context_in h.retired c) (context_in h.completed c) (h.complete.contexts.contexts.each c lc) i lt in
      let same = completed_both h.retired.cycle (entry_at (context_in h.retired c) i) in
      (at.0, ap (λ (e : Entry). e.stamp) at.1 ∙ same.0, ap (λ (e : Entry). e.fetched) at.1 ∙ same.1))

  issued_dated : AreDated h.completed → AreDated h.issued
  issued_dated =
      dated_kept h.completed h.issued
      (λ c i lc lt.
      let at = issued_at_place h.completed.cycle c note.issued.items (context_in h.completed c) (context_in h.issued c) (h.issue.contexts.contexts.each c lc) i lt in
      let e : Entry = entry_at (context_in h.completed c) i in
      let same = issued_both h.completed.cycle (context_in h.completed c) i e (issue_of c e note.issued.items) in
      (at.0, ap (λ (f : Entry). f.stamp) at.1 ∙ same.0, ap (λ (f : Entry). f.fetched) at.1 ∙ same.1))

  renamed_dated : AreDated h.issued → AreDated h.renamed
  renamed_dated =
      dated_kept h.issued h.renamed
      (λ c i lc lt.
      let is : context_in h.renamed c ≡ renamed_context h.issued.cycle note.renamed.items c (context_in h.issued c) = ap (λ (u : View). context_in u c) h.rename.is ∙ renamed_in h.issued note.renamed.items c lc in
      let at = renamed_at_place h.issued.cycle c note.renamed.items (context_in h.issued c) (context_in h.renamed c) is i lt in
      let same = renamed_both h.issued.cycle c note.renamed.items (entry_at (context_in h.issued c) i) in
      (at.0, ap (λ (e : Entry). e.stamp) at.1 ∙ same.0, ap (λ (e : Entry). e.fetched) at.1 ∙ same.1))

  -- an old entry stays, a new one has a stamp from the next on and this cycle
  abbrev OldOrNew : ℕ → ℕ → Type 0
  OldOrNew c i = ((i < length (flight_in h.renamed c)) × (stamp_at h.fetched c i ≡ stamp_at h.renamed c i) × (fetched_at h.fetched c i ≡ fetched_at h.renamed c i))
      ⊎ ((h.renamed.stamp ≤ stamp_at h.fetched c i) × (fetched_at h.fetched c i ≡ h.renamed.cycle))

  old_or_new : (c i : ℕ) → c < 8 → i < length (flight_in h.fetched c) → OldOrNew c i
  old_or_new c i lc li =
      let block = h.fetch.contexts.each c lc in
      elim (cases_lt i (length (flight_in h.renamed c))) [
        | inl old ↦
            let at = kept_at_place (laws.guesses c) h.renamed.cycle (stamps_in c note.fetched.items) (context_in h.renamed c) (context_in h.fetched c) block i old in
            inl (old, ap (λ (e : Entry). e.stamp) at, ap (λ (e : Entry). e.fetched) at)
        | inr ge ↦
            let count = block.count in
            let j : ℕ = i - length (flight_in h.renamed c) in
            let at : length (flight_in h.renamed c) + j ≡ i = omega (arith, ge) in
            let new = (block.entries j (omega (arith, count, li, ge))).is in
            let fetched : fetched_at h.fetched c i ≡ h.renamed.cycle = ap (fetched_at h.fetched c) (sym at) ∙ ap (λ (e : Entry). e.fetched) new in
            inr (stamp_new c i lc li ge, fetched)
      ]
    where
      stamp_new : (c i : ℕ) → c < 8 → i < length (flight_in h.fetched c) → length (flight_in h.renamed c) ≤ i → h.renamed.stamp ≤ stamp_at h.fetched c i
      stamp_new c i lc li ge =
          elim (was_or_is_new laws.pick laws.guesses h.renamed h.fetched note.fetched.items h.fetch c i lc li) [
            | inl old ↦ let lt = old.0 in absurd (omega (arith, lt, ge))
            | inr new ↦ let is = new.1.3 in omega (arith, is)
          ]

  fetched_dated : AreDated h.renamed → AreDated h.fetched
  fetched_dated before c d i j lc ld li lj le =
      elim (old_or_new c i lc li) [
        | inl a ↦ elim (old_or_new d j ld lj) [
          | inl b ↦ let sa = a.1 in let sb = b.1 in let fa = a.2 in let fb = b.2 in let old = before c d i j lc ld a.0 b.0 (omega (arith, le, sa, sb)) in omega (arith, old, fa, fb)
          | inr b ↦ let fa = a.2 in let fb = b.1 in let by = timely c i lc a.0 in omega (arith, fa, fb, by)
        ]
        | inr a ↦ elim (old_or_new d j ld lj) [
          | inl b ↦ let sa = a.0 in let sb = b.1 in let under = stamped.below d j ld b.0 in absurd (omega (arith, le, sa, sb, under))
          | inr b ↦ let fa = a.1 in let fb = b.1 in omega (arith, fa, fb)
        ]
      ]

  pub cycle_dated : AreDated v → AreDated w
  cycle_dated before =
      let fetched : AreDated h.fetched = fetched_dated (renamed_dated (issued_dated (completed_dated (retired_dated before)))) in
      subst AreDated (sym h.next) fetched

-- so of two contexts' oldest fetched entries the one with the less stamp is at least as old
pub older_waits_longer : (v : View) (c d : ℕ) (e f : Entry) → AreDated v → c < 8 → d < 8 → oldest_fetched (context_in v c) ≡ Some e → oldest_fetched (context_in v d) ≡ Some f → e.stamp ≤ f.stamp → v.cycle - f.fetched ≤ v.cycle - e.fetched
older_waits_longer v c d e f dated lc ld is also le =
    let at = found_at (λ g. not (is_renamed g.stage)) (flight_in v c) e is in
    let there = found_at (λ g. not (is_renamed g.stage)) (flight_in v d) f also in
    let se = ap (λ (g : Entry). g.stamp) at.2 in
    let sf = ap (λ (g : Entry). g.stamp) there.2 in
    let fe = ap (λ (g : Entry). g.fetched) at.2 in
    let ff = ap (λ (g : Entry). g.fetched) there.2 in
    let before = dated c d at.0 there.0 lc ld at.1 there.1 (omega (arith, le, se, sf)) in
    omega (arith, before, fe, ff)

-- so a lawful cycle keeps it, from stamps in order and entries fetched by then
pub cycle_keeps_dated : (laws : Laws) (v w : View) (note : CycleNote) → IsLawfulCycle laws v w note → IsStamped v → AreTimely v.cycle v → AreDated v → AreDated w
cycle_keeps_dated laws v w note h stamped timely = cycle_dated laws v w note h in_order by_now
  where
    in_order : IsStamped h.renamed
    in_order =
        rename_stamped h.issued h.renamed note.renamed.items h.rename
        (issue_stamped laws.order laws.delays h.completed h.issued note.issued.items h.issue (complete_stamped h.retired h.completed note.completed h.complete (retire_stamped v h.retired note.retired.items h.retire stamped)))

    holds : HoldsOfEach (λ stamp fetched. fetched ≤ v.cycle) h.renamed
    holds =
        subst (HoldsOfEach (λ stamp fetched. fetched ≤ v.cycle)) (sym h.rename.is)
        (rename_keeps (λ stamp fetched. fetched ≤ v.cycle) h.issued note.renamed.items
        (issue_keeps (λ stamp fetched. fetched ≤ v.cycle) laws.order laws.delays h.completed h.issued note.issued.items h.issue
        (complete_keeps (λ stamp fetched. fetched ≤ v.cycle) h.retired h.completed note.completed h.complete
        (retire_keeps (λ stamp fetched. fetched ≤ v.cycle) v h.retired note.retired.items h.retire (λ c i lc lt. (timely c i lc lt).fetched)))))

    now : h.renamed.cycle ≡ v.cycle
    now = ap (λ (u : View). u.cycle) h.rename.is ∙ h.issue.contexts.cycle ∙ h.complete.contexts.cycle ∙ h.retire.contexts.cycle

    by_now : (c i : ℕ) → c < 8 → i < length (flight_in h.renamed c) → fetched_at h.renamed c i ≤ h.renamed.cycle
    by_now c i lc lt = let le = holds c i lc lt in let same = now in omega (arith, le, same)
