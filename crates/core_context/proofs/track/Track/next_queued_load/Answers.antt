use Rattle.std.proofs.Common.{rules}
use Rattle.core_context.proofs.track.Track.next_queued_load.Goals as goal

pub returns-clause-next : goal.returns-clause-next
returns-clause-next g c = search rules
