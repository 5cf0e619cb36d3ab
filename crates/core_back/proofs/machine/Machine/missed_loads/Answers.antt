use Rattle.std.proofs.Common.{ap, ◌∙◌, arith}
use Rattle.std.specs.Prelude.{count_by}
use Rattle.core_view.specs.View.{Context}
use Rattle.core_view.specs.Flight.{is_missed_load}
use Rattle.core_context.proofs.Laws.{missed_count}
use Rattle.core_back.proofs.Machines.{at_context}
use Rattle.core_back.proofs.machine.Machine.missed_loads.Goals as goal

pub returns-clause-value : goal.returns-clause-value
returns-clause-value g c =
    let h = at_context c.self.inside c.args.self.now c.args.context c.index.result c.index-track.result.now c.self.view_is c.self.invariant (omega (arith, c.index.ensures)) c.index.ensures.value c.index-track.ensures in
    c.missed_loads.ensures.value ∙ missed_count c.index-track.result.now.renamed c.index-track.result.now.context.flight h.core.are_fetched ∙ ap (λ (x : Context). count_by is_missed_load x.flight) h.context
