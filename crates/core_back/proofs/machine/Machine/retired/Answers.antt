use Rattle.std.proofs.Common.{ap, ◌∙◌, arith}
use Rattle.core_view.specs.View.{Context}
use Rattle.core_back.proofs.Machines.{at_context}
use Rattle.core_back.proofs.machine.Machine.retired.Goals as goal

pub returns-clause-count : goal.returns-clause-count
returns-clause-count g c =
    let h = at_context c.self.inside c.args.self.now c.args.context c.index.result c.index-track.result.now c.self.view_is c.self.invariant (omega (arith, c.index.ensures)) c.index.ensures.value c.index-track.ensures in
    c.count.ensures ∙ ap (λ (x : Context). x.count) h.context
