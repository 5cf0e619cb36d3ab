use Rattle.std.proofs.Common.{ap, length, arith}
use Rattle.core_view.specs.View.{entry_at}
use Rattle.core_view.specs.Stages.{execution_of}
use Rattle.core_context.specs.Track.{Track}
use Rattle.core_context.proofs.Completes.{complete_fewer}
use Rattle.core_context.proofs.EventsKept.{complete_kept}
use Rattle.core_context.proofs.events.complete.Goals as goal

pub overflow_sub-result : goal.overflow_sub-result
overflow_sub-result g c =
    omega (arith, c.len.ensures.value, c.len-before.ensures.value, ap (λ (t : Track). length t.context.flight) c.complete_entry.ensures.track, complete_fewer c.args.track.now.context.flight c.args.place (execution_of (entry_at c.args.track.now.context c.args.place).stage))

pub returns-clause-event : goal.returns-clause-event
returns-clause-event g c =
    rw (c.complete_entry.ensures.track, c.complete_entry.ensures.flow) (complete_kept c.args.flow.now c.args.context c.args.track.now c.args.place (execution_of (entry_at c.args.track.now.context c.args.place).stage) c.requires.core.has_lane c.requires.place c.requires.issued)

pub returns-clause-cut : goal.returns-clause-cut
returns-clause-cut g c =
    omega (arith, c.len.ensures.value, c.len-before.ensures.value, ap (λ (t : Track). length t.context.flight) c.complete_entry.ensures.track, complete_fewer c.args.track.now.context.flight c.args.place (execution_of (entry_at c.args.track.now.context c.args.place).stage))
