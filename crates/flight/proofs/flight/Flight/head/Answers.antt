use Rattle.std.proofs.Common.{ap, ◌∙◌}
use Rattle.std.specs.Prelude.{slice_get}
use Rattle.flight.specs.Flights.{Flight}
use Rattle.flight.proofs.flight.Flight.head.Goals as goal

pub returns : goal.returns
returns g c = c.head.ensures ∙ ap (λ (f : Flight). slice_get f.entries 0) c.self.view_is
