use Rattle.std.proofs.Common.{refl}
use Rattle.data_flow.proofs.operands.Slot.rename.Goals as goal

pub returns : goal.returns
returns c = rw c.index.ensures.same refl
