use Rattle.std.proofs.Common.{ap, ◌∙◌, arith}
use Rattle.core_view.specs.View.{Context}
use Rattle.lawful_cycle.specs.Fetch.{is_eligible}
use Rattle.core_context.proofs.Laws.{eligible_is}
use Rattle.core_back.proofs.Machines.{at_context}
use Rattle.core_back.proofs.machine.Machine.can_fetch.Goals as goal

pub returns : goal.returns
returns g c =
    let h = at_context c.self.inside c.args.self.now c.args.context c.index.result c.index-asked.result.now c.self.view_is c.self.invariant (omega (arith, c.index.ensures)) c.index.ensures.value c.index-asked.ensures in
    c.can_fetch.ensures.value ∙ eligible_is c.index-asked.result.now.context c.index-asked.result.now.renamed h.core.are_renamed h.core.are_fetched ∙ ap (λ (x : Context). is_eligible x) h.context
