use Rattle.std.proofs.Common.{length, ap, sym}
use Rattle.data_flow.specs.Flow.{lane}
use Rattle.core_context.proofs.Retires.{none_left}
use Rattle.core_context.proofs.events.park.Goals as goal

pub cut_from-requires : goal.cut_from-requires
cut_from-requires g c = sym (ap length (none_left (lane c.args.flow.now c.args.context).nodes))
