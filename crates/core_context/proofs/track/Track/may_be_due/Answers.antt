use Rattle.std.proofs.Common.{◌≡◌, ℕ, false, subst}
use Rattle.flight.specs.Flights.{is_due}
use Rattle.core_view.specs.View.{entry_at}
use Rattle.core_context.specs.Track.{Track}
use Rattle.core_context.proofs.track.Track.may_be_due.Goals as goal

pub returns : goal.returns
returns g c = subst (λ (t : Track). c.may_be_due.result ≡ false → (i : ℕ) → is_due c.args.cycle (entry_at t.context i) ≡ false) c.self.view_is c.may_be_due.ensures
