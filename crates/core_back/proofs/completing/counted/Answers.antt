use Rattle.std.proofs.Common.{refl}
use Rattle.core_back.proofs.completing.counted.Goals as goal

pub returns : goal.returns
returns c = refl
