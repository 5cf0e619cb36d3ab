use Rattle.std.proofs.Common.{length, refl, sym, ap, ◌∙◌, arith}
use Rattle.core_view.specs.View.{Context}
use Rattle.core_view.specs.Events.{stop_event}
use Rattle.core_context.specs.FrontLists.{front_fill}
use Rattle.core_context.specs.Track.{Track}
use Rattle.core_back.specs.Machine.{context_at}
use Rattle.core_context.specs.Heads.{first_done}
use Rattle.core_back.proofs.InFlight.{in_flight_after}
use Rattle.core_back.proofs.Machines.{At, at_context, fills_set, is_idle, machine_after_event, shown_after}
use Rattle.core_back.proofs.machine.Machine.stop.Given.{Over}
use Rattle.core_back.proofs.machine.Machine.stop.Goals as goal
use Rattle.core_back.proofs.machine.Machine.stop.Goals.{After-index_mut-track}

-- the track and the lane of the context
here : (g : Over) (c : After-index_mut-track g) → At c.self.inside c.args.self.now c.args.context c.index_mut-track.result.now
here g c = at_context c.self.inside c.args.self.now c.args.context c.index.result c.index_mut-track.result.now c.self.view_is c.self.invariant (omega (arith, c.index.ensures)) c.index.ensures.value c.index_mut-track.ensures.value

pub stop-requires-clause-core : goal.stop-requires-clause-core
stop-requires-clause-core g c =
    let h = here g (goal.at.stop-requires-clause-core g c).After-index_mut-track in
    is_idle c.self.inside c.args.self.now c.args.context c.index_mut-track.result.now c.self.view_is c.requires.idle (omega (arith, c.index.ensures)) h

pub stop-requires-clause-done : goal.stop-requires-clause-done
stop-requires-clause-done g c =
    let h = here g (goal.at.stop-requires-clause-done g c).After-index_mut-track in
    ap (λ (x : Context). first_done x.flight) h.context ∙ c.requires.done

pub invariant_of-self : goal.invariant_of-self
invariant_of-self g c =
    let h = here g (goal.at.invariant_of-self g c).After-index_mut-track in
    machine_after_event c.self.inside _ c.args.self.now c.args.context c.index.result c.index_mut-track.result.now c.stop.new.track c.stop.new.flow c.self.view_is c.self.invariant c.requires.idle (omega (arith, c.index.ensures)) h c.stop.ensures.event
    c.index.ensures.value refl refl refl refl refl refl refl refl
    (fills_set c.self.inside.fills c.self.inside.tracks.items c.args.context c.index-2.result 16 c.stop.new.track c.self.invariant.fills (omega (arith, c.index.ensures)) c.self.invariant.tracks c.index-2.ensures.value (ap (λ (t : Track). front_fill t.context) (sym c.stop.ensures.track)))

pub returns-clause-stopped : goal.returns-clause-stopped
returns-clause-stopped g c =
    let h = here g (goal.at.returns-clause-stopped g c).After-index_mut-track in
    shown_after c.self.inside c.args.self.now c.args.context c.index.result c.stop.new.track _ c.self.view_is c.index.ensures.value (ap (λ (t : Track). t.context) c.stop.ensures.track ∙ ap (λ (x : Context). stop_event x c.args.why) h.context)

pub returns-clause-dropped : goal.returns-clause-dropped
returns-clause-dropped g c =
    let h = here g (goal.at.returns-clause-dropped g c).After-index_mut-track in
    in_flight_after c.self.inside c.args.self.now _ c.args.context (stop_event (context_at c.args.self.now c.args.context) c.args.why) c.len-dropped.result c.self.view_is h.in_tracks (returns-clause-stopped g c)
    (omega (arith, c.len-dropped.ensures.value, ap (λ (x : Context). length x.flight) h.context))

pub returns-clause-bound : goal.returns-clause-bound
returns-clause-bound g c =
    let h = here g (goal.at.returns-clause-bound g c).After-index_mut-track in
    let most = c.self.inside.profile.reorder_buffer_in_range.1 in omega (arith, c.len-dropped.ensures.bound, h.core.capacity, most)
