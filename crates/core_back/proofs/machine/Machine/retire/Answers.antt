use Rattle.std.proofs.Common.{◌≡◌, length, refl, ap, sym, subst, ◌∙◌, arith}
use Rattle.core_view.specs.View.{Context, entry_at}
use Rattle.core_view.specs.Events.{retire_event}
use Rattle.core_context.specs.Track.{Track}
use Rattle.core_back.specs.Machine.{context_at}
use Rattle.core_context.specs.Heads.{IsGoing, first_done, step_on}
use Rattle.core_back.proofs.InFlight.{in_flight_after}
use Rattle.core_back.proofs.Machines.{At, at_context, fills_retired, is_idle, machine_after_event, shown_after}
use Rattle.core_back.proofs.machine.Machine.retire.Given.{Over}
use Rattle.core_back.proofs.machine.Machine.retire.Goals as goal
use Rattle.lawful_cycle.specs.Queries.{when_shown}
use Rattle.core_back.proofs.machine.Machine.retire.Goals.{After-index_mut-track}

-- the track and the lane of the context
here : (g : Over) (c : After-index_mut-track g) → At c.self.inside c.args.self.now c.args.context c.index_mut-track.result.now
here g c = at_context c.self.inside c.args.self.now c.args.context c.index.result c.index_mut-track.result.now c.self.view_is c.self.invariant (omega (arith, c.index.ensures)) c.index.ensures.value c.index_mut-track.ensures.value

pub retire-retired-requires-clause-core : goal.retire-retired-requires-clause-core
retire-retired-requires-clause-core g c =
    let h = here g (goal.at.retire-retired-requires-clause-core g c).After-index_mut-track in
    is_idle c.self.inside c.args.self.now c.args.context c.index_mut-track.result.now c.self.view_is c.requires.idle (omega (arith, c.index.ensures)) h

pub retire-retired-requires-clause-done : goal.retire-retired-requires-clause-done
retire-retired-requires-clause-done g c =
    let h = here g (goal.at.retire-retired-requires-clause-done g c).After-index_mut-track in
    subst (λ (x : Context). IsGoing (first_done x.flight)) (sym h.context) c.requires.done

pub invariant_of-self : goal.invariant_of-self
invariant_of-self g c =
    let h = here g (goal.at.invariant_of-self g c).After-index_mut-track in
    machine_after_event c.self.inside _ c.args.self.now c.args.context c.index.result c.index_mut-track.result.now c.retire-retired.new.track c.retire-retired.new.flow c.self.view_is c.self.invariant c.requires.idle (omega (arith, c.index.ensures)) h c.retire-retired.ensures.event
    c.index.ensures.value refl refl refl refl refl refl refl refl
    (rw (c.close_parked.ensures, c.retire-retired.ensures.parked) (fills_retired c.self.inside c.args.self.now c.args.context c.index_mut-track.result.now c.retire-retired.new.track c.retire-retired.new.flow c.self.view_is c.self.invariant c.requires.idle (omega (arith, c.index.ensures)) h c.retire-retired.ensures.event (subst (λ (x : Context). IsGoing (first_done x.flight)) (sym h.context) c.requires.done) c.retire-retired.ensures.track))

pub returns-clause-retired : goal.returns-clause-retired
returns-clause-retired g c =
    let h = here g (goal.at.returns-clause-retired g c).After-index_mut-track in
    shown_after c.self.inside c.args.self.now c.args.context c.index.result c.retire-retired.new.track _ c.self.view_is c.index.ensures.value (ap (λ (t : Track). t.context) c.retire-retired.ensures.track ∙ ap (λ (x : Context). retire_event x (step_on (first_done x.flight))) h.context)

pub returns-clause-stamp : goal.returns-clause-stamp
returns-clause-stamp g c =
    let h = here g (goal.at.returns-clause-stamp g c).After-index_mut-track in
    c.retire-retired.ensures.stamp ∙ ap (λ (x : Context). (entry_at x 0).stamp) h.context

pub returns-clause-dropped : goal.returns-clause-dropped
returns-clause-dropped g c =
    let h = here g (goal.at.returns-clause-dropped g c).After-index_mut-track in
    let old : length c.index_mut-track.result.now.context.flight ≡ length (context_at c.args.self.now c.args.context).flight = ap (λ (x : Context). length x.flight) h.context in
    let new : length c.retire-retired.new.track.context.flight ≡ length (retire_event (context_at c.args.self.now c.args.context) (step_on (first_done (context_at c.args.self.now c.args.context).flight))).flight =
    ap (λ (t : Track). length t.context.flight) c.retire-retired.ensures.track ∙ ap (λ (x : Context). length (retire_event x (step_on (first_done x.flight))).flight) h.context in
    in_flight_after c.self.inside c.args.self.now _ c.args.context (retire_event (context_at c.args.self.now c.args.context) (step_on (first_done (context_at c.args.self.now c.args.context).flight))) _ c.self.view_is h.in_tracks (returns-clause-retired g c)
    (omega (arith, c.retire-retired.ensures.dropped, old, new))

pub returns-clause-bound : goal.returns-clause-bound
returns-clause-bound g c =
    let h = here g (goal.at.returns-clause-bound g c).After-index_mut-track in
    let most = c.self.inside.profile.reorder_buffer_in_range.1 in omega (arith, c.len-len.ensures.value, c.len-len.ensures.bound, c.retire-retired.ensures.dropped, h.core.capacity, most)

pub returns-clause-state : goal.returns-clause-state
returns-clause-state g c =
    let h = here g (goal.at.returns-clause-state g c).After-index_mut-track in
    subst (λ (x : Context). c.retire-retired.new.guess ≡ when_shown (entry_at x 0).operation (λ insn. g.G.Guess.after_learn c.args.guess.now c.args.context (entry_at x 0).pc insn (step_on (first_done x.flight)).next) c.args.guess.now) h.context c.retire-retired.ensures.state
