use Rattle.std.proofs.Common.{ap}
use Rattle.core_back.specs.Machine.{Machine}
use Rattle.core_back.proofs.machine.Machine.next_stamp.Goals as goal

pub returns-clause-value : goal.returns-clause-value
returns-clause-value g c = ap (λ (v : Machine). v.view.stamp) c.self.view_is
