use Rattle.std.proofs.Common.{◌≡◌, ◌<◌, ℕ, length, subst}
use Rattle.std.specs.Prelude.{Option, IfSome}
use Rattle.core_view.specs.View.{entry_at}
use Rattle.core_context.proofs.Issues.{place_issuable}
use Rattle.core_context.proofs.events.waits_searched.Goals as goal

pub returns-clause-issuable : goal.returns-clause-issuable
returns-clause-issuable g c = λ goes.
    let x = c.args.track.now.context in
    let there = subst (λ (o : Option ℕ). IfSome o (λ i. (i < length x.flight) × ((entry_at x i).stamp ≡ c.args.stamp))) c.unwrap-place.ensures c.queued_place.ensures.found in
    place_issuable c.args.flow.now c.args.context c.args.track.now c.args.stamp c.unwrap-place.result c.read_sources-first.result c.load_waits_by_search.result c.requires.supplied there c.read_sources-first.ensures c.load_waits_by_search.ensures goes
