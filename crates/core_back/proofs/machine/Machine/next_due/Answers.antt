use Rattle.std.proofs.Common.{refl, ap, subst, ◌∙◌, arith}
use Rattle.std.specs.Prelude.{MatchOption}
use Rattle.core_view.specs.View.{Context}
use Rattle.flight.specs.Flights.{is_due, NoneFrom, IsNext}
use Rattle.core_context.specs.Track.{Track}
use Rattle.core_back.specs.Machine.{Machine, context_at}
use Rattle.core_back.proofs.Machines.{At, at_context, machine_same, shown_same}
use Rattle.core_back.proofs.machine.Machine.next_due.Given.{Over}
use Rattle.core_back.proofs.machine.Machine.next_due.Goals as goal
use Rattle.core_back.proofs.machine.Machine.next_due.Goals.{After-index_mut-track}

-- the track and the lane of the context
here : (g : Over) (c : After-index_mut-track g) → At c.self.inside c.args.self.now c.args.context c.index_mut-track.result.now
here g c = at_context c.self.inside c.args.self.now c.args.context c.index.result c.index_mut-track.result.now c.self.view_is c.self.invariant (omega (arith, c.index.ensures)) c.index.ensures.value c.index_mut-track.ensures.value

pub returns-clause-next : goal.returns-clause-next
returns-clause-next g c =
    let h = here g (goal.at.returns-clause-next g c).After-index_mut-track in
    subst (λ k. MatchOption c.next_due.result (NoneFrom (is_due k) (context_at c.args.self.now c.args.context).flight c.args.from) (λ place. IsNext (is_due k) (context_at c.args.self.now c.args.context).flight c.args.from place)) (ap (λ (v : Machine). v.view.cycle) c.self.view_is)
    (subst (λ (x : Context). MatchOption c.next_due.result (NoneFrom (is_due c.self.inside.cycle) x.flight c.args.from) (λ place. IsNext (is_due c.self.inside.cycle) x.flight c.args.from place)) h.context c.next_due.ensures.next)

pub returns-clause-same : goal.returns-clause-same
returns-clause-same g c =
    let h = here g (goal.at.returns-clause-same g c).After-index_mut-track in
    shown_same c.self.inside c.args.self.now c.args.context c.index.result c.next_due.new.self c.self.view_is c.index.ensures.value (ap (λ (u : Track). u.context) c.next_due.ensures.same ∙ h.context)

pub invariant_of-self : goal.invariant_of-self
invariant_of-self g c =
    let h = here g (goal.at.invariant_of-self g c).After-index_mut-track in
    machine_same c.self.inside _ c.args.context c.index.result c.next_due.new.self c.self.invariant (c.next_due.ensures.same ∙ h.track) c.index.ensures.value refl refl refl refl refl refl refl refl refl

pub returns-clause-few : goal.returns-clause-few
returns-clause-few g c = c.next_due.ensures.few
