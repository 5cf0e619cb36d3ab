use Rattle.std.proofs.Common.{ap, arith}
use Rattle.circular_buffer.specs.Buffer.{Buffer, buffer}
use Rattle.data_flow.proofs.Numbered.{popped_back}
use Rattle.data_flow.specs.declared.operands.Renamed.{Renamed}
use Rattle.data_flow.specs.Listed.{of_number}
use Rattle.data_flow.proofs.active_list.ActiveList.pop_back.Goals as goal

pub returns-clause-rest : goal.returns-clause-rest
returns-clause-rest c =
    let items = popped_back (of_number c.self.inside.slots) c.self.inside.head c.self.inside.tail c.args.self.now.items (ap (λ (b : Buffer Renamed). b.items) c.self.view_is) (omega arith) (omega arith) c.requires in
    rw items (ap (buffer _) (ap (λ (b : Buffer Renamed). b.capacity) c.self.view_is))
