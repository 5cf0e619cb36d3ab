use Rattle.std.proofs.Common.{ap, drop, ◌∙◌}
use Rattle.std.specs.Prelude.{is_some}
use Rattle.core_context.specs.Track.{Track}
use Rattle.core_context.specs.Heads.{first_done}
use Rattle.core_context.proofs.Tracks.{next_is_done}
use Rattle.core_context.proofs.track.Track.is_next_done.Goals as goal

pub returns : goal.returns
returns g c = c.is_next_done.ensures ∙ next_is_done c.self.inside.flight.entries ∙ ap (λ (t : Track). is_some (first_done (drop 1 t.context.flight))) c.self.view_is
