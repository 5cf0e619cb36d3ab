use Rattle.std.proofs.Common.{true, sym, ap, ◌∙◌}
use Rattle.core_view.specs.declared.entry.Entry.{Entry}
use Rattle.core_view.specs.View.{entry_at}
use Rattle.core_context.specs.Issuable.{must_wait}
use Rattle.core_context.proofs.HeldLoads.{held_remarked, held_waiting, free_waiting, held_other}
use Rattle.core_context.proofs.events.hold_load.Goals as goal

pub returns-in_default-clause-held : goal.returns-in_default-clause-held
returns-in_default-clause-held g c =
    free_waiting c.args.flow.now c.args.context c.args.track.now c.args.place (ap (must_wait c.args.track.now.context c.args.place) (sym c.sources.ensures ∙ c.in_default.is)) c.requires.let_go

pub returns-then-not-load_waits_by_search-clause-held : goal.returns-then-not-load_waits_by_search-clause-held
returns-then-not-load_waits_by_search-clause-held g c =
    free_waiting c.args.flow.now c.args.context c.args.track.now c.args.place
    (ap (must_wait c.args.track.now.context c.args.place) (sym c.sources.ensures ∙ c.in-Some.is) ∙ sym (c.load_waits_by_search.ensures c.in-Some._second) ∙ c.if-not-load_waits_by_search.true) c.requires.let_go

pub returns-clause-flow : goal.returns-clause-flow
returns-clause-flow g c = held_remarked c.args.flow.now c.hold.new.self c.args.context c.entry_at-entry.result.stamp true c.hold.ensures

pub returns-clause-held : goal.returns-clause-held
returns-clause-held g c =
    held_waiting c.args.flow.now c.hold.new.self c.args.context c.args.track.now c.args.place c.in-Some.first c.in-Some._second c.load_waits_by_search.result c.entry_at-entry.result c.sources.result c.entry_at-entry.ensures c.sources.ensures c.in-Some.is (c.load_waits_by_search.ensures c.in-Some._second) c.if-not-load_waits_by_search.false c.hold.ensures

pub returns-clause-others : goal.returns-clause-others
returns-clause-others g c d k b =
    held_other c.args.flow.now c.hold.new.self c.args.context (entry_at c.args.track.now.context c.args.place).stamp c.entry_at-entry.result d k b (ap (λ (e : Entry). e.stamp) c.entry_at-entry.ensures) c.hold.ensures
