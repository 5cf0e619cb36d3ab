use Rattle.std.proofs.Common.{◌≡◌, subst, arith}
use Rattle.std.specs.Prelude.{IfSome, Some}
use Rattle.core_view.specs.View.{Context}
use Rattle.core_view.specs.declared.outcome.Outcome.TheVariants.{Stops}
use Rattle.core_context.specs.Heads.{IsGoing, first_done}
use Rattle.core_back.proofs.Machines.{at_context}
use Rattle.core_back.proofs.machine.Machine.head_stop.Goals as goal

pub returns-clause-goes : goal.returns-clause-goes
returns-clause-goes g c none =
    let h = at_context c.self.inside c.args.self.now c.args.context c.index.result c.index-track.result.now c.self.view_is c.self.invariant (omega (arith, c.index.ensures)) c.index.ensures.value c.index-track.ensures in
    subst (λ (x : Context). IsGoing (first_done x.flight)) h.context (c.head_stop.ensures.goes none)

pub returns-clause-stops : goal.returns-clause-stops
returns-clause-stops g c =
    let h = at_context c.self.inside c.args.self.now c.args.context c.index.result c.index-track.result.now c.self.view_is c.self.invariant (omega (arith, c.index.ensures)) c.index.ensures.value c.index-track.ensures in
    subst (λ (x : Context). IfSome c.head_stop.result (λ why. first_done x.flight ≡ Some (Stops why))) h.context c.head_stop.ensures.stops
