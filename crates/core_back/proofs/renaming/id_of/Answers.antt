use Rattle.std.proofs.Common.{refl}
use Rattle.core_back.proofs.renaming.id_of.Goals as goal

pub returns : goal.returns
returns c = refl
