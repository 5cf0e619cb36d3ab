use Rattle.std.proofs.Common.{ap, length, ◌∙◌}
use Rattle.core_back.specs.Machine.{Machine}
use Rattle.core_back.proofs.machine.Machine.selected_count.Goals as goal

pub returns : goal.returns
returns g c = c.len.ensures ∙ ap (λ (v : Machine). length v.names) c.self.view_is
