use Rattle.std.proofs.Common.{◌≡◌, ◌<◌, not, true, sym, ap, ◌∙◌, get_or, arith}
use Rattle.std.specs.Prelude.{nat_lt}
use Rattle.std.proofs.lemmas.Bool.{ltb-true}
use Rattle.core_view.specs.declared.entry.Stage.TheVariants.{Queued}
use Rattle.core_view.specs.Queues.{is_renamed}
use Rattle.core_view.specs.View.{no_entry}
use Rattle.core_context.specs.Track.{Track}
use Rattle.core_context.proofs.HeldLoads.{none_completed_may}
use Rattle.core_context.proofs.track.Track.load_waits.Goals as goal

pub returns-else-not-has_no_completed_store : goal.returns-else-not-has_no_completed_store
returns-else-not-has_no_completed_store g c second =
    let queued : (get_or c.self.inside.flight.entries c.args.place no_entry).stage ≡ Queued = rw (← c.self.view_is) at c.requires.queued in
    let oldest : nat_lt c.args.place c.renamed_count-renamed.result ≡ true = sym (c.renamed_count-renamed.ensures.oldest c.args.place) ∙ ap is_renamed queued in
    let count = c.renamed_count-renamed.ensures.value ∙ ap (λ (t : Track). t.renamed) c.self.view_is in
    let renamed : c.args.place < c.args.self.now.renamed = omega (arith, ltb-true c.args.place c.renamed_count-renamed.result oldest, count) in
    let none = c.if-not-has_no_completed_store.false in
    ap not (none ∙ sym (none_completed_may c.args.self.now.context c.args.place c.args.first second c.requires.place c.requires.answered (λ span. c.has_no_completed_store.ensures none c.args.place span renamed)))

pub returns-then-not-has_no_completed_store : goal.returns-then-not-has_no_completed_store
returns-then-not-has_no_completed_store g c = c.load_waits_by_search.ensures
