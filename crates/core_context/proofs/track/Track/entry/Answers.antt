use Rattle.std.proofs.Common.{slice_get, ap, ◌∙◌}
use Rattle.core_context.specs.Track.{Track}
use Rattle.core_context.proofs.track.Track.entry.Goals as goal

pub returns : goal.returns
returns g c = c.get.ensures ∙ ap (λ (t : Track). slice_get t.context.flight c.args.place) c.self.view_is
