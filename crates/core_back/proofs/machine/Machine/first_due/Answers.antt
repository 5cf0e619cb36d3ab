use Rattle.std.proofs.Common.{ap, subst, arith}
use Rattle.std.specs.Prelude.{IfSome}
use Rattle.core_view.specs.View.{Context}
use Rattle.flight.specs.Flights.{is_due, IsNext}
use Rattle.core_back.specs.Machine.{Machine, context_at}
use Rattle.core_back.proofs.Machines.{at_context}
use Rattle.core_back.proofs.machine.Machine.first_due.Goals as goal

pub returns : goal.returns
returns g c =
    let h = at_context c.self.inside c.args.self.now c.args.context c.index.result c.index-track.result.now c.self.view_is c.self.invariant (omega (arith, c.index.ensures)) c.index.ensures.value c.index-track.ensures in
    subst (λ k. IfSome c.first_due.result (IsNext (is_due k) (context_at c.args.self.now c.args.context).flight 0)) (ap (λ (v : Machine). v.view.cycle) c.self.view_is)
    (subst (λ (x : Context). IfSome c.first_due.result (IsNext (is_due c.self.inside.cycle) x.flight 0)) h.context c.first_due.ensures)
