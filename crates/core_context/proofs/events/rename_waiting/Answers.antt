use Rattle.std.proofs.Common.{Bool, ap, ◌∙◌}
use Rattle.core_view.specs.declared.entry.Entry.{Entry}
use Rattle.core_view.specs.View.{entry_at}
use Rattle.core_view.specs.Operations.{stops_at_fetch}
use Rattle.core_context.specs.Steps.{renamed_flow}
use Rattle.core_context.proofs.WaiterMarks.{renamed_waiting}
use Rattle.core_context.proofs.events.rename_waiting.Goals as goal

pub returns-clause-flow : goal.returns-clause-flow
returns-clause-flow g c =
    let here = c.entry_at-entry.ensures ∙ ap (λ i. entry_at c.args.track.now.context i) c.renamed_count.ensures.value in
    let f = c.args.flow.now in
    let r = c.args.track.now in
    let spec = c.has_uncompleted_guess-speculative.result in
    renamed_waiting f c.rename_waiting-2.new.self c.args.context c.entry_at-entry.result c.operands.result spec c.is_guessed-guessed.result c.is_load-load.result c.operands.ensures (ap (λ (e : Entry). stops_at_fetch e.operation) here ∙ c.requires.goes) c.is_guessed-guessed.ensures c.is_load-load.ensures c.rename_waiting-2.ensures
    ∙ ap (λ (x : Entry). renamed_flow f c.args.context x spec) here
    ∙ ap (λ (b : Bool). renamed_flow f c.args.context (entry_at r.context r.renamed) b) c.has_uncompleted_guess-speculative.ensures
