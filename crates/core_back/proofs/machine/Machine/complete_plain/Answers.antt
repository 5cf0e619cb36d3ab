use Rattle.std.proofs.Common.{◌≡◌, ◌<◌, length, refl, sym, ap, subst, ◌∙◌, arith}
use Rattle.core_view.specs.View.{Context, entry_at}
use Rattle.core_view.specs.Events.{complete_event}
use Rattle.core_view.specs.Stages.{execution_of, IsIssued}
use Rattle.flight.specs.Flights.{is_due, NoneFrom}
use Rattle.std.specs.Arc.{arc_value}
use Rattle.origin_set.specs.Start.{start}
use Rattle.core_context.specs.FrontLists.{front_fill}
use Rattle.core_context.specs.Track.{Track}
use Rattle.core_context.proofs.Laws.{fill_finished}
use Rattle.core_back.specs.Machine.{context_at}
use Rattle.core_back.proofs.Machines.{At, at_context, core_after, fills_still, idle_core, is_idle, machine_after_event, shown_after, shown_same, shown_there, shown_length}
use Rattle.core_back.proofs.Options.{none_or_some, some_of}
use Rattle.core_back.proofs.machine.Machine.complete_plain.Given.{Over}
use Rattle.core_back.proofs.machine.Machine.complete_plain.Goals as goal
use Rattle.core_back.proofs.machine.Machine.complete_plain.Goals.{After-index_mut-track}

-- the track and the lane of the context
here : (g : Over) (c : After-index_mut-track g) → At c.self.inside c.args.self.now c.args.context c.index_mut-track.result.now
here g c = at_context c.self.inside c.args.self.now c.args.context c.index.result c.index_mut-track.result.now c.self.view_is c.self.invariant (omega (arith, c.index.ensures)) c.index.ensures.value c.index_mut-track.ensures.value

pub complete_plain-requires-clause-core : goal.complete_plain-requires-clause-core
complete_plain-requires-clause-core g c =
    let h = here g (goal.at.complete_plain-requires-clause-core g c).After-index_mut-track in
    is_idle c.self.inside c.args.self.now c.args.context c.index_mut-track.result.now c.self.view_is c.requires.idle (omega (arith, c.index.ensures)) h

pub invariant_of-self : goal.invariant_of-self
invariant_of-self g c =
    let h = here g (goal.at.invariant_of-self g c).After-index_mut-track in
    let core = idle_core c.self.inside c.args.self.now c.args.context c.index_mut-track.result.now c.self.view_is c.requires.idle h in
    let after = core_after c.self.inside c.args.self.now c.args.context c.index_mut-track.result.now c.complete_plain.new.track c.complete_plain.new.flow c.self.view_is c.requires.idle h c.complete_plain.ensures.event in
    let fill : front_fill c.complete_plain.new.track.context ≡ front_fill c.index_mut-track.result.now.context =
    none_or_some c.complete_plain.result c.complete_plain.ensures.finished (λ none. ap (λ (t : Track). front_fill t.context) (c.complete_plain.ensures.none none).1)
    (λ _ is. fill_finished (start (arc_value c.self.inside.origins.c0) c.args.context) c.self.inside.stamp c.self.inside.profile.reorder_buffer c.self.inside.flow c.complete_plain.new.flow c.args.context c.index_mut-track.result.now c.complete_plain.new.track core after c.args.place (execution_of (entry_at c.index_mut-track.result.now.context c.args.place).stage) is) in
    machine_after_event c.self.inside _ c.args.self.now c.args.context c.index.result c.index_mut-track.result.now c.complete_plain.new.track c.complete_plain.new.flow c.self.view_is c.self.invariant c.requires.idle (omega (arith, c.index.ensures)) h c.complete_plain.ensures.event
    c.index.ensures.value refl refl refl refl refl refl refl refl (fills_still c.self.inside c.args.self.now c.args.context c.index_mut-track.result.now c.complete_plain.new.track c.self.invariant (omega (arith, c.index.ensures)) h fill)

pub returns-clause-none : goal.returns-clause-none
returns-clause-none g c none =
    let h = here g (goal.at.returns-clause-none g c).After-index_mut-track in
    shown_same c.self.inside c.args.self.now c.args.context c.index.result c.complete_plain.new.track c.self.view_is c.index.ensures.value (ap (λ (u : Track). u.context) (c.complete_plain.ensures.none none).1 ∙ h.context)

pub returns-clause-completed : goal.returns-clause-completed
returns-clause-completed g c =
    let h = here g (goal.at.returns-clause-completed g c).After-index_mut-track in
    some_of c.complete_plain.result c.complete_plain.ensures.track (λ f is. shown_after c.self.inside c.args.self.now c.args.context c.index.result c.complete_plain.new.track _ c.self.view_is c.index.ensures.value
    (ap (λ (t : Track). t.context) is ∙ ap (λ (x : Context). complete_event x c.args.place (execution_of (entry_at x c.args.place).stage)) h.context))

pub returns-clause-kept : goal.returns-clause-kept
returns-clause-kept g c =
    let h = here g (goal.at.returns-clause-kept g c).After-index_mut-track in
    let as_shown = ap (λ (x : Context). length x.flight) h.context in
    some_of c.complete_plain.result c.complete_plain.ensures.kept (λ _ kept.
    let same = shown_length c.self.inside c.args.context c.index.result c.complete_plain.new.track h.in_tracks c.index.ensures.value 0 (length (context_at c.args.self.now c.args.context).flight) (omega (arith, kept, as_shown)) in omega (arith, same))

pub returns-clause-more : goal.returns-clause-more
returns-clause-more g c =
    let h = here g (goal.at.returns-clause-more g c).After-index_mut-track in
    let there = shown_there c.self.inside c.args.context c.index.result c.complete_plain.new.track h.in_tracks c.index.ensures.value in
    some_of c.complete_plain.result c.complete_plain.ensures.more (λ f said none. subst (λ (x : Context). NoneFrom (is_due c.self.inside.cycle) x.flight 0) there (λ i from. said none i))

pub complete_plain-requires-clause-place : goal.complete_plain-requires-clause-place
complete_plain-requires-clause-place g c =
    let h = here g (goal.at.complete_plain-requires-clause-place g c).After-index_mut-track in
    subst (λ (x : Context). c.args.place < length x.flight) (sym h.context) c.requires.place

pub complete_plain-requires-clause-issued : goal.complete_plain-requires-clause-issued
complete_plain-requires-clause-issued g c =
    let h = here g (goal.at.complete_plain-requires-clause-issued g c).After-index_mut-track in
    subst (λ (x : Context). IsIssued (entry_at x c.args.place).stage) (sym h.context) c.requires.issued
