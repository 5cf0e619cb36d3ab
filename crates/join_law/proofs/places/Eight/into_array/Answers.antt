use Rattle.std.proofs.Common.{refl}
use Rattle.join_law.proofs.places.Eight.into_array.Goals as goal

pub returns : goal.returns
returns g c = refl
