use Rattle.std.proofs.Common.{subst}
use Rattle.std.specs.Prelude.{IfSome}
use Rattle.flight.specs.Flights.{is_due, IsNext}
use Rattle.core_context.specs.Track.{Track}
use Rattle.core_context.proofs.track.Track.first_due.Goals as goal

pub returns : goal.returns
returns g c = subst (λ (t : Track). IfSome c.first_due.result (IsNext (is_due c.args.cycle) t.context.flight 0)) c.self.view_is c.first_due.ensures
