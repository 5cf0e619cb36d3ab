use Rattle.std.proofs.Common.{refl}
use Rattle.core_back.proofs.retiring.add_dropped.Goals as goal

pub returns : goal.returns
returns c = refl
