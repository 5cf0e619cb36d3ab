use Rattle.std.proofs.Common.{ap, ◌∙◌}
use Rattle.core_context.specs.Track.{Track, parked}
use Rattle.core_context.proofs.track.Track.park.Goals as goal

pub returns-clause-parked : goal.returns-clause-parked
returns-clause-parked g c = c.drop_flight.ensures ∙ ap (λ (t : Track). parked t) c.self.view_is
