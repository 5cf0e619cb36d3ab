use Rattle.std.proofs.Common.{ap, ◌∙◌}
use Rattle.paged_memory.specs.Cells.{Cells, rights_at}
use Rattle.core_view.specs.Outcomes.{fault_of}
use Rattle.core_context.specs.Track.{Track}
use Rattle.core_context.proofs.track.Track.access_fault.Goals as goal

pub returns : goal.returns
returns g c =
    c.access_fault.ensures ∙ ap (λ (m : Cells). fault_of c.self.inside.environment (rights_at m) c.args.effect) c.plain.ensures
    ∙ ap (λ (t : Track). fault_of t.context.state.environment (rights_at t.context.state.memory) c.args.effect) c.self.view_is
