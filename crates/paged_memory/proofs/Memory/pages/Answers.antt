use Rattle.std.proofs.Common.{ap, sym, ◌∙◌}
use Rattle.paged_memory.specs.Pages.{pages_of}
use Rattle.paged_memory.proofs.Listed.{pages_of-cells_of}
use Rattle.paged_memory.proofs.Memory.pages.Goals as goal

pub returns : goal.returns
returns g c =
    c.as_slice.ensures.value
    ∙ sym (pages_of-cells_of c.self.inside.text c.self.inside.pages.items c.self.invariant)
    ∙ ap pages_of c.self.view_is
