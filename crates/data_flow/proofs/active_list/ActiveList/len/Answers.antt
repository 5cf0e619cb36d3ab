use Rattle.std.proofs.Common.{ap, arith}
use Rattle.circular_buffer.specs.Buffer.{Buffer}
use Rattle.data_flow.proofs.Numbered.{counted}
use Rattle.data_flow.specs.declared.operands.Renamed.{Renamed}
use Rattle.data_flow.specs.Listed.{of_number}
use Rattle.data_flow.proofs.active_list.ActiveList.len.Goals as goal

pub returns-clause-value : goal.returns-clause-value
returns-clause-value c = omega (arith, counted (of_number c.self.inside.slots) c.self.inside.head c.self.inside.tail c.args.self.now.items (ap (λ (b : Buffer Renamed). b.items) c.self.view_is))
