use Rattle.std.proofs.Common.{rules}
use Rattle.core_context.proofs.track.Track.guessed_ahead.Goals as goal

pub returns-clause-value : goal.returns-clause-value
returns-clause-value g c = search rules
