use Rattle.std.proofs.Common.{ap, ◌∙◌}
use Rattle.core_view.specs.Flight.{is_open}
use Rattle.core_context.specs.Track.{Track}
use Rattle.core_context.proofs.track.Track.is_open.Goals as goal

pub returns : goal.returns
returns g c = c.self.invariant.1.open_is ∙ ap (λ (t : Track). is_open t.context.flight) c.self.view_is
