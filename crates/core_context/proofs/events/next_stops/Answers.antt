use Rattle.std.proofs.Common.{ap, ◌∙◌}
use Rattle.core_view.specs.declared.entry.Entry.{Entry}
use Rattle.core_view.specs.Operations.{stops_at_fetch}
use Rattle.core_view.specs.View.{entry_at}
use Rattle.core_context.proofs.events.next_stops.Goals as goal

pub returns : goal.returns
returns g c = c.stops_at_fetch.ensures ∙ ap (λ (e : Entry). stops_at_fetch e.operation) (c.entry_at-next.ensures ∙ ap (λ i. entry_at c.args.track.now.context i) c.renamed_count.ensures.value)
