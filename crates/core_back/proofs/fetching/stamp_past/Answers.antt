use Rattle.std.proofs.Common.{refl}
use Rattle.core_back.proofs.fetching.stamp_past.Goals as goal

pub returns : goal.returns
returns c = refl
