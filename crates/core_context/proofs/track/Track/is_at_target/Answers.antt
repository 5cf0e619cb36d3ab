use Rattle.std.proofs.Common.{ap}
use Rattle.std.specs.Prelude.{◌==◌}
use Rattle.core_context.specs.Track.{Track}
use Rattle.core_context.proofs.track.Track.is_at_target.Goals as goal

pub returns : goal.returns
returns g c = ap (λ (t : Track). t.context.count == t.context.target) c.self.view_is
