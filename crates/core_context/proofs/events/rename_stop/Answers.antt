use Rattle.std.proofs.Common.{ap, ◌∙◌}
use Rattle.core_view.specs.declared.entry.Entry.{Entry}
use Rattle.core_view.specs.View.{entry_at}
use Rattle.core_view.specs.Operations.{stops_at_fetch}
use Rattle.core_context.specs.Steps.{renamed_flow}
use Rattle.core_context.proofs.WaiterMarks.{renamed_stops}
use Rattle.core_context.proofs.events.rename_stop.Goals as goal

pub returns-clause-flow : goal.returns-clause-flow
returns-clause-flow g c speculative =
    let here = c.entry_at-entry.ensures ∙ ap (λ i. entry_at c.args.track.now.context i) c.renamed_count.ensures.value in
    renamed_stops c.args.flow.now c.rename-2.new.self c.args.context c.entry_at-entry.result c.operands.result speculative c.operands.ensures c.rename-2.ensures (ap (λ (e : Entry). stops_at_fetch e.operation) here ∙ c.requires.stops)
    ∙ ap (λ (x : Entry). renamed_flow c.args.flow.now c.args.context x speculative) here
