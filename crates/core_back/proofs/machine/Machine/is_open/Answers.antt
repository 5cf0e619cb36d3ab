use Rattle.std.proofs.Common.{ap, ◌∙◌, arith}
use Rattle.core_view.specs.Flight.{is_open}
use Rattle.core_view.specs.View.{Context}
use Rattle.core_back.proofs.Machines.{at_context}
use Rattle.core_back.proofs.machine.Machine.is_open.Goals as goal

pub returns : goal.returns
returns g c =
    let h = at_context c.self.inside c.args.self.now c.args.context c.index.result c.index-track.result.now c.self.view_is c.self.invariant (omega (arith, c.index.ensures)) c.index.ensures.value c.index-track.ensures in
    c.is_open.ensures ∙ ap (λ (x : Context). is_open x.flight) h.context
