use Rattle.std.proofs.Common.{refl}
use Rattle.rv64_asm.proofs.fault.code_of.Goals as goal

pub returns-in-LabelTwice : goal.returns-in-LabelTwice
returns-in-LabelTwice c = rw c.in-LabelTwice.is refl
