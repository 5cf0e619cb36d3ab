use Rattle.std.proofs.Common.{ap, ◌∙◌}
use Rattle.circular_buffer.specs.Buffer.{last_item}
use Rattle.flight.specs.Flights.{Flight}
use Rattle.flight.proofs.flight.Flight.last.Goals as goal

pub returns : goal.returns
returns g c = c.last.ensures ∙ ap (λ (f : Flight). last_item f.entries) c.self.view_is
