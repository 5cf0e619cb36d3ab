use Rattle.std.proofs.Common.{ap, ◌∙◌}
use Rattle.paged_memory.specs.Cells.{Cells}
use Rattle.hart_step.specs.State.{State}
use Rattle.core_context.specs.Track.{Track}
use Rattle.core_context.proofs.track.Track.into_hart.Goals as goal

pub returns : goal.returns
returns g c =
    c.new.ensures.is ∙ ap {B = State} (λ (m : Cells). record { registers = c.self.inside.registers; pc = c.self.inside.pc; memory = m; environment = c.self.inside.environment }) c.into_plain-memory.ensures
    ∙ ap (λ (t : Track). t.context.state) c.self.view_is
