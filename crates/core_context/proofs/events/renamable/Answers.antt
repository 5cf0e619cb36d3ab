use Rattle.std.proofs.Common.{◌≡◌, ◌+◌, ◌<◌, ◌≤◌, slice_get, Some, ap, sym, subst, arith, ◌∙◌}
use Rattle.std.specs.Prelude.{option_copied}
use Rattle.std.proofs.lemmas.Option.{get_or_from_slice_get, slice_get_within}
use Rattle.data_flow.specs.Flow.{taken}
use Rattle.core_view.specs.declared.entry.Entry.{Entry}
use Rattle.core_view.specs.Operations.{destination_of}
use Rattle.core_view.specs.View.{entry_at, no_entry}
use Rattle.core_context.specs.Renamable.{HasPlaces}
use Rattle.core_context.proofs.Renames.{needs_none}
use Rattle.core_context.proofs.Tracks.{not_there}
use Rattle.core_context.proofs.NotRenamable.{past_limit, all_renamed, is_below, too_young, no_register, no_places}
use Rattle.core_context.proofs.events.renamable.Goals.{then-entry-limit-via-then-entry-limit, then-entry-limit-via-else-entry-limit+then-place-from, else-free_count-eq0-via-then-free_count-eq0+else-needs_register, else-free_count-eq0-via-else-free_count-eq0}
use Rattle.core_context.proofs.events.renamable.Goals as goal

pub returns-then-has_places-clause-can : goal.returns-then-has_places-clause-can
returns-then-has_places-clause-can g c =
    let t = c.args.track.now in
    let read : slice_get t.context.flight t.renamed ≡ Some c.in_ok-entry.entry.now = ap (λ i. slice_get t.context.flight i) (sym c.renamed_count-place.ensures.value) ∙ sym c.entry.ensures ∙ ap option_copied c.in_ok-entry.was in
    let here : entry_at t.context t.renamed ≡ c.in_ok-entry.entry.now = get_or_from_slice_get t.context.flight t.renamed c.in_ok-entry.entry.now no_entry read in
    let places = subst (λ (e : Entry). HasPlaces c.args.flow.now t e.operation) (sym here) (c.has_places.ensures.0 c.if-has_places.true) in
    let free : 0 < destination_of c.in_ok-entry.entry.now.operation → taken c.args.flow.now < c.args.flow.now.extra =
    elim c.else-free_count-eq0.branch [
      | else-free_count-eq0-via-then-free_count-eq0+else-needs_register w ↦ λ some. absurd (needs_none c.in_ok-entry.entry.now.operation some (sym w.needs_register.ensures ∙ w.if-needs_register.false))
      | else-free_count-eq0-via-else-free_count-eq0 w ↦ λ some. omega (arith, w.if-free_count-eq0.false, c.free_count.ensures)
    ] in
    record {
      some = slice_get_within t.context.flight t.renamed c.in_ok-entry.entry.now read;
      fits = is_below c.renamed_count-place.result t.renamed c.from.result c.args.profile.now.reorder_buffer c.renamed_count-place.ensures.value c.from.ensures c.if-place-from.false;
      stamp_is = ap (λ (e : Entry). e.stamp) here;
      age = subst (λ (e : Entry). e.fetched + c.args.profile.now.front_delay ≤ c.args.cycle) (sym here) (c.is_past_front.ensures.0 c.if-not-is_past_front.false);
      free = subst (λ (e : Entry). 0 < destination_of e.operation → taken c.args.flow.now < c.args.flow.now.extra) (sym here) free;
      place = places.place;
      load = places.load;
      store = places.store;
    }

pub returns-in_err-entry-clause-none : goal.returns-in_err-entry-clause-none
returns-in_err-entry-clause-none g c = λ _ stamp within r.
    let t = c.args.track.now in
    not_there t.context.flight t.renamed (ap (λ i. slice_get t.context.flight i) (sym c.renamed_count-place.ensures.value) ∙ sym c.entry.ensures ∙ ap option_copied c.in_err-entry.was) r.some

pub returns-then-entry-limit-clause-none : goal.returns-then-entry-limit-clause-none
returns-then-entry-limit-clause-none g c = λ _ stamp within r.
    let t = c.args.track.now in
    let read : slice_get t.context.flight t.renamed ≡ Some c.in_ok-entry.entry.now = ap (λ i. slice_get t.context.flight i) (sym c.renamed_count-place.ensures.value) ∙ sym c.entry.ensures ∙ ap option_copied c.in_ok-entry.was in
    let here : entry_at t.context t.renamed ≡ c.in_ok-entry.entry.now = get_or_from_slice_get t.context.flight t.renamed c.in_ok-entry.entry.now no_entry read in
    elim c.then-entry-limit.branch [
      | then-entry-limit-via-then-entry-limit w ↦ past_limit c.args.limit c.in_ok-entry.entry.now here w.if-entry-limit.true within r
      | then-entry-limit-via-else-entry-limit+then-place-from w ↦ all_renamed c.renamed_count-place.result w.from.result c.renamed_count-place.ensures.value w.from.ensures w.if-place-from.true r
    ]

pub returns-then-not-is_past_front-clause-none : goal.returns-then-not-is_past_front-clause-none
returns-then-not-is_past_front-clause-none g c = λ _ stamp within r.
    let t = c.args.track.now in
    let read : slice_get t.context.flight t.renamed ≡ Some c.in_ok-entry.entry.now = ap (λ i. slice_get t.context.flight i) (sym c.renamed_count-place.ensures.value) ∙ sym c.entry.ensures ∙ ap option_copied c.in_ok-entry.was in
    let here : entry_at t.context t.renamed ≡ c.in_ok-entry.entry.now = get_or_from_slice_get t.context.flight t.renamed c.in_ok-entry.entry.now no_entry read in
    too_young c.in_ok-entry.entry.now c.is_past_front.result here c.is_past_front.ensures.1 c.if-not-is_past_front.true r

pub returns-then-needs_register-clause-none : goal.returns-then-needs_register-clause-none
returns-then-needs_register-clause-none g c = λ _ stamp within r.
    let t = c.args.track.now in
    let read : slice_get t.context.flight t.renamed ≡ Some c.in_ok-entry.entry.now = ap (λ i. slice_get t.context.flight i) (sym c.renamed_count-place.ensures.value) ∙ sym c.entry.ensures ∙ ap option_copied c.in_ok-entry.was in
    let here : entry_at t.context t.renamed ≡ c.in_ok-entry.entry.now = get_or_from_slice_get t.context.flight t.renamed c.in_ok-entry.entry.now no_entry read in
    no_register c.in_ok-entry.entry.now c.free_count.result c.needs_register.result here c.free_count.ensures c.if-free_count-eq0.true c.needs_register.ensures c.if-needs_register.true r

pub returns-else-has_places-clause-none : goal.returns-else-has_places-clause-none
returns-else-has_places-clause-none g c = λ _ stamp within r.
    let t = c.args.track.now in
    let read : slice_get t.context.flight t.renamed ≡ Some c.in_ok-entry.entry.now = ap (λ i. slice_get t.context.flight i) (sym c.renamed_count-place.ensures.value) ∙ sym c.entry.ensures ∙ ap option_copied c.in_ok-entry.was in
    let here : entry_at t.context t.renamed ≡ c.in_ok-entry.entry.now = get_or_from_slice_get t.context.flight t.renamed c.in_ok-entry.entry.now no_entry read in
    no_places c.in_ok-entry.entry.now c.has_places.result here c.has_places.ensures.1 c.if-has_places.false r
