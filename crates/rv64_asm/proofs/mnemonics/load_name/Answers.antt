use Rattle.std.proofs.Common.{refl}
use Rattle.rv64_asm.proofs.mnemonics.load_name.Goals as goal

pub returns-in-WordUnsigned : goal.returns-in-WordUnsigned
returns-in-WordUnsigned c = rw c.in-WordUnsigned.is refl
