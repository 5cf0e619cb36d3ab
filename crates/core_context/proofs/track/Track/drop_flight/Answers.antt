use Rattle.std.proofs.Common.{ap}
use Rattle.flight.specs.Flights.{Flight}
use Rattle.core_context.proofs.Ends.{end_empty}
use Rattle.core_context.proofs.track.Track.drop_flight.Goals as goal

pub invariant_of-self : goal.invariant_of-self
invariant_of-self g c = (c.self.invariant.0, end_empty c.self.inside.pc c.clear.new.self.entries (ap (λ (f : Flight). f.entries) c.clear.ensures))
