use Rattle.std.proofs.Common.{length, ap, sym}
use Rattle.data_flow.specs.Flow.{lane}
use Rattle.core_context.proofs.Retires.{none_left}
use Rattle.core_context.proofs.EventsKept.{stop_kept}
use Rattle.core_context.proofs.events.stop.Goals as goal

pub cut_from-requires : goal.cut_from-requires
cut_from-requires g c = sym (ap length (none_left (lane c.args.flow.now c.args.context).nodes))

pub returns-clause-event : goal.returns-clause-event
returns-clause-event g c = rw (c.cut_from.ensures, c.stop.ensures) (stop_kept c.args.flow.now c.args.context c.args.track.now c.args.why c.requires.core.has_lane c.requires.done)
