use Rattle.std.proofs.Common.{ap, ◌∙◌}
use Rattle.core_context.specs.Track.{Track, stopped}
use Rattle.core_context.proofs.track.Track.stop.Goals as goal

pub returns : goal.returns
returns g c = c.drop_flight.ensures ∙ ap (λ (t : Track). stopped t c.args.why) c.self.view_is
