use Rattle.std.proofs.Common.{ap, ◌∙◌}
use Rattle.std.specs.Prelude.{slice_get}
use Rattle.flight.specs.Flights.{Flight}
use Rattle.flight.proofs.flight.Flight.get.Goals as goal

pub returns : goal.returns
returns g c = c.get.ensures ∙ ap (λ (f : Flight). slice_get f.entries c.args.place) c.self.view_is
