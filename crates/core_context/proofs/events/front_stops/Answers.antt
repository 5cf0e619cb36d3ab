use Rattle.std.proofs.Common.{slice_get, ap, sym, ◌∙◌}
use Rattle.std.specs.Prelude.{option_copied, false}
use Rattle.std.specs.Option.{option_map_or}
use Rattle.core_view.specs.declared.entry.Entry.{Entry}
use Rattle.core_view.specs.Operations.{stops_at_fetch}
use Rattle.core_context.proofs.events.front_stops.Goals as goal

pub returns-in-Some : goal.returns-in-Some
returns-in-Some g c =
    let read = sym (ap option_copied c.in-Some.is) ∙ c.entry.ensures ∙ ap (λ i. slice_get c.args.track.now.context.flight i) c.renamed_count.ensures.value in
    c.stops_at_fetch.ensures ∙ ap (λ o. option_map_or (λ (e : Entry). stops_at_fetch e.operation) o false) read
