use Rattle.std.proofs.Common.{Bool, ℕ, ◌≡◌, ◌<◌, ◌∙◌, sym, ap, subst, refl, length, slice_get, Some, arith, if◌then◌else◌}
use Rattle.std.specs.Prelude.{option_copied}
use Rattle.std.proofs.lemmas.Bool.{ne_eqb}
use Rattle.std.proofs.lemmas.Option.{get_or_from_slice_get}
use Rattle.core_view.specs.declared.entry.Entry.{Entry}
use Rattle.core_view.specs.View.{entry_at, no_entry}
use Rattle.core_context.specs.Track.{Track}
use Rattle.core_context.proofs.Tracks.{queued_here, none_up_to, none_queued}
use Rattle.core_context.proofs.track.Track.queued_place.Goals as goal

pub returns-then-entry-stamp-clause-known : goal.returns-then-entry-stamp-clause-known
returns-then-entry-stamp-clause-known g c =
    let read : slice_get c.self.inside.flight.entries c.in-Some.place ≡ Some c.unwrap-entry.result.now = sym c.get.ensures ∙ ap option_copied c.unwrap-entry.ensures in
    let next = c.in-Some.ensures.next in
    rw (← c.self.view_is) (λ _. queued_here c.args.stamp c.self.inside.flight.entries c.in-Some.place c.unwrap-entry.result.now read next.passes c.if-entry-stamp.true, λ _. refl)

pub loop-place-preserved : goal.loop-place-preserved
loop-place-preserved g c =
    let read : slice_get c.self.inside.flight.entries c.in-Some.place ≡ Some c.unwrap-entry.result.now = sym c.get.ensures ∙ ap option_copied c.unwrap-entry.ensures in
    record {
      few = omega (arith, c.in-Some.ensures.renamed, c.renamed_count-renamed.ensures.few, c.renamed_count-renamed.ensures.value);
      none = none_up_to c.args.stamp c.self.inside.flight.entries c.loop-place.from c.in-Some.place c.unwrap-entry.result.now c.loop-place.invariant.none c.in-Some.ensures.next read (ne_eqb c.unwrap-entry.result.now.stamp c.args.stamp c.if-entry-stamp.false);
    }

pub returns-clause-known : goal.returns-clause-known
returns-clause-known g c =
    let none = none_queued c.args.stamp c.self.inside.flight.entries c.loop-place.from c.loop-place.invariant.none c.in_default.ensures.next in
    rw (← c.self.view_is) (λ e. absurd (omega (arith, ap {B = ℕ} (λ (b : Bool). if b then 1 else 0) e)), λ found. sym none ∙ found)

pub returns-then-entry-stamp-clause-found : goal.returns-then-entry-stamp-clause-found
returns-then-entry-stamp-clause-found g c =
    let read : slice_get c.self.inside.flight.entries c.in-Some.place ≡ Some c.unwrap-entry.result.now = sym c.get.ensures ∙ ap option_copied c.unwrap-entry.ensures in
    subst (λ (t : Track). (c.in-Some.place < length t.context.flight) × ((entry_at t.context c.in-Some.place).stamp ≡ c.args.stamp)) c.self.view_is
    (c.in-Some.ensures.next.within, ap (λ (e : Entry). e.stamp) (get_or_from_slice_get c.self.inside.flight.entries c.in-Some.place c.unwrap-entry.result.now no_entry read) ∙ c.if-entry-stamp.true)
