use Rattle.std.proofs.Common.{rules}
use Rattle.core_context.proofs.track.Track.head.Goals as goal

pub returns-in_default : goal.returns-in_default
returns-in_default g c = search rules
