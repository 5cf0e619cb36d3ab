use Rattle.std.proofs.Common.{ap, arith}
use Rattle.core_view.specs.View.{entry_at}
use Rattle.core_view.specs.Stages.{execution_of}
use Rattle.core_context.specs.Track.{Track}
use Rattle.core_context.proofs.Completes.{issued_renamed, told_completed}
use Rattle.core_context.proofs.events.complete_entry.Goals as goal

pub settle_speculation-requires-clause-renamed : goal.settle_speculation-requires-clause-renamed
settle_speculation-requires-clause-renamed g c =
    let k = c.requires.core in
    let below = issued_renamed k.start k.stamp k.reorder c.args.flow.now c.args.context c.args.track.now c.args.place (execution_of (entry_at c.args.track.now.context c.args.place).stage) k.core c.requires.place c.requires.issued in
    omega (arith, below, ap (λ (t : Track). t.renamed) c.finish_entry.ensures.track)

pub settle_speculation-requires-clause-told : goal.settle_speculation-requires-clause-told
settle_speculation-requires-clause-told g c n le =
    let k = c.requires.core in
    rw (c.finish_entry.ensures.track, c.finish_entry.ensures.flow)
    (told_completed k.start k.stamp k.reorder c.args.flow.now c.args.context c.args.track.now c.args.place (execution_of (entry_at c.args.track.now.context c.args.place).stage) k.has_lane k.core c.requires.place c.requires.issued n le)
