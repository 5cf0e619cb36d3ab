use Rattle.paged_memory.proofs.Bytes.{byte_map}
use Rattle.paged_memory.proofs.Memory.byte.Goals as goal

pub returns-clause-bytes : goal.returns-clause-bytes
returns-clause-bytes g c = rw (← c.self.view_is) (byte_map c.self.inside.text c.self.inside.pages.items c.self.invariant)
