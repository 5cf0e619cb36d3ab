use Rattle.std.proofs.Common.{◌<◌, length, refl, sym, ap, subst, ◌∙◌, arith}
use Rattle.core_view.specs.View.{Context, entry_at}
use Rattle.core_view.specs.Stages.{execution_of, IsIssued}
use Rattle.core_view.specs.Events.{complete_event}
use Rattle.core_context.specs.Track.{Track}
use Rattle.core_back.proofs.Machines.{At, at_context, core_after, fills_read, is_idle, machine_after_event, shown_after, shown_length}
use Rattle.core_back.proofs.machine.Machine.complete.Given.{Over}
use Rattle.core_back.proofs.machine.Machine.complete.Goals as goal
use Rattle.core_back.proofs.machine.Machine.complete.Goals.{After-index_mut-track}

-- the track and the lane of the context
here : (g : Over) (c : After-index_mut-track g) → At c.self.inside c.args.self.now c.args.context c.index_mut-track.result.now
here g c = at_context c.self.inside c.args.self.now c.args.context c.index.result c.index_mut-track.result.now c.self.view_is c.self.invariant (omega (arith, c.index.ensures)) c.index.ensures.value c.index_mut-track.ensures.value

pub complete-cut-requires-clause-core : goal.complete-cut-requires-clause-core
complete-cut-requires-clause-core g c =
    let h = here g (goal.at.complete-cut-requires-clause-core g c).After-index_mut-track in
    is_idle c.self.inside c.args.self.now c.args.context c.index_mut-track.result.now c.self.view_is c.requires.idle (omega (arith, c.index.ensures)) h

pub invariant_of-self : goal.invariant_of-self
invariant_of-self g c =
    let h = here g (goal.at.invariant_of-self g c).After-index_mut-track in
    machine_after_event c.self.inside _ c.args.self.now c.args.context c.index.result c.index_mut-track.result.now c.complete-cut.new.track c.complete-cut.new.flow c.self.view_is c.self.invariant c.requires.idle (omega (arith, c.index.ensures)) h c.complete-cut.ensures.event
    c.index.ensures.value refl refl refl refl refl refl refl refl
    (fills_read c.self.inside c.args.self.now c.args.context c.index-2.result c.front_fill.result c.index_mut-track.result.now c.complete-cut.new.track c.complete-cut.new.flow c.self.view_is c.self.invariant c.requires.idle (omega (arith, c.index.ensures)) h c.complete-cut.ensures.event c.index-2.ensures.value c.front_fill.ensures)

pub front_fill-requires : goal.front_fill-requires
front_fill-requires g c =
    let h = here g (goal.at.front_fill-requires g c).After-index_mut-track in
    let core = core_after c.self.inside c.args.self.now c.args.context c.index_mut-track.result.now c.complete-cut.new.track c.complete-cut.new.flow c.self.view_is c.requires.idle h c.complete-cut.ensures.event in
    let most = c.self.inside.profile.reorder_buffer_in_range.1 in omega (arith, core.capacity, most)

pub returns-clause-completed : goal.returns-clause-completed
returns-clause-completed g c =
    let h = here g (goal.at.returns-clause-completed g c).After-index_mut-track in
    shown_after c.self.inside c.args.self.now c.args.context c.index.result c.complete-cut.new.track _ c.self.view_is c.index.ensures.value (ap (λ (t : Track). t.context) c.complete-cut.ensures.track ∙ ap (λ (x : Context). complete_event x c.args.place (execution_of (entry_at x c.args.place).stage)) h.context)

pub returns-clause-cut : goal.returns-clause-cut
returns-clause-cut g c =
    let h = here g (goal.at.returns-clause-cut g c).After-index_mut-track in
    shown_length c.self.inside c.args.context c.index.result c.complete-cut.new.track h.in_tracks c.index.ensures.value c.complete-cut.result _ (c.complete-cut.ensures.cut ∙ ap (λ (x : Context). length x.flight) h.context)

pub complete-cut-requires-clause-place : goal.complete-cut-requires-clause-place
complete-cut-requires-clause-place g c =
    let h = here g (goal.at.complete-cut-requires-clause-place g c).After-index_mut-track in
    subst (λ (x : Context). c.args.place < length x.flight) (sym h.context) c.requires.place

pub complete-cut-requires-clause-issued : goal.complete-cut-requires-clause-issued
complete-cut-requires-clause-issued g c =
    let h = here g (goal.at.complete-cut-requires-clause-issued g c).After-index_mut-track in
    subst (λ (x : Context). IsIssued (entry_at x c.args.place).stage) (sym h.context) c.requires.issued
