use Rattle.std.proofs.Common.{rules}
use Rattle.core_context.proofs.track.Track.has_front_room.Goals as goal

pub returns-then-is_running : goal.returns-then-is_running
returns-then-is_running g c = search rules
