use Rattle.std.proofs.Common.{ap, ◌∙◌}
use Rattle.core_view.specs.Flight.{pc_past}
use Rattle.core_context.specs.Track.{Track}
use Rattle.core_context.proofs.track.Track.fetch_pc.Goals as goal

pub returns : goal.returns
returns g c = c.self.invariant.1.pc_is ∙ ap (λ (t : Track). pc_past t.context.state.pc t.context.flight) c.self.view_is
