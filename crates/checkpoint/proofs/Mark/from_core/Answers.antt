use Rattle.std.proofs.Common.{refl}
use Rattle.checkpoint.proofs.Mark.from_core.Goals as goal

pub invariant_of-result : goal.invariant_of-result
invariant_of-result g c = (c.requires.bound, c.requires.reached)

pub returns : goal.returns
returns g c = refl
