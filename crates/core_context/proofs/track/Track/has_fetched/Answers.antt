use Rattle.std.proofs.Common.{rules}
use Rattle.core_context.proofs.track.Track.has_fetched.Goals as goal

pub returns : goal.returns
returns g c = search rules
