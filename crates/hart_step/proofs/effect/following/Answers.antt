use Rattle.std.proofs.Common.{refl}
use Rattle.hart_step.proofs.effect.following.Goals as goal

pub returns : goal.returns
returns c = refl
