use Rattle.std.proofs.Common.{ap, arith, ◌∙◌}
use Rattle.origin_set.specs.Start.{start}
use Rattle.core_view.specs.View.{Context}
use Rattle.core_context.specs.Heads.{first_done}
use Rattle.core_back.proofs.Machines.{at_context, shown_live}
use Rattle.core_back.proofs.NextOutcomes.{some_next}
use Rattle.core_back.proofs.machine.Machine.head.Goals as goal

pub returns-clause-next : goal.returns-clause-next
returns-clause-next g c =
    let h = at_context c.self.inside c.args.self.now c.args.context c.index.result c.index-track.result.now c.self.view_is c.self.invariant (omega (arith, c.index.ensures)) c.index.ensures.value c.index-track.ensures in
    some_next (start c.args.self.now.origin c.args.context) c.args.self.now.view.stamp _ c.head.result (shown_live c.self.inside c.args.self.now c.args.context c.index-track.result.now c.self.view_is h)
    (c.head.ensures ∙ ap (λ (x : Context). first_done x.flight) h.context)
