use Rattle.std.proofs.Common.{ap, ◌∙◌}
use Rattle.std.specs.Prelude.{is_some}
use Rattle.core_context.specs.Track.{Track}
use Rattle.entry_stages.specs.Heads.{first_done}
use Rattle.core_context.proofs.Tracks.{first_is_done}
use Rattle.core_context.proofs.track.Track.is_head_done.Goals as goal

pub returns : goal.returns
returns g c = c.is_head_done.ensures ∙ first_is_done c.self.inside.flight.entries ∙ ap (λ (t : Track). is_some (first_done t.context.flight)) c.self.view_is
