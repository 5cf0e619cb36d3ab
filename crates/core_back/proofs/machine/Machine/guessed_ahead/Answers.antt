use Rattle.std.proofs.Common.{ap, ◌∙◌, arith}
use Rattle.std.specs.Prelude.{◌&&◌, count_by}
use Rattle.core_view.specs.Operations.{is_guessed}
use Rattle.core_view.specs.View.{Context}
use Rattle.lawful_cycle.specs.Fetch.{is_fetched}
use Rattle.core_context.proofs.Laws.{guessed_count}
use Rattle.core_back.proofs.Machines.{at_context}
use Rattle.core_back.proofs.machine.Machine.guessed_ahead.Goals as goal

pub returns-clause-value : goal.returns-clause-value
returns-clause-value g c =
    let h = at_context c.self.inside c.args.self.now c.args.context c.index.result c.index-track.result.now c.self.view_is c.self.invariant (omega (arith, c.index.ensures)) c.index.ensures.value c.index-track.ensures in
    c.guessed_ahead.ensures.value ∙ guessed_count c.index-track.result.now.renamed c.index-track.result.now.context.flight h.core.are_renamed h.core.are_fetched ∙ ap (λ (x : Context). count_by (λ e. is_fetched e && is_guessed e.operation) x.flight) h.context
