use Rattle.std.proofs.Common.{refl}
use Rattle.join_law.proofs.context.Ctx.all.Goals as goal

pub returns : goal.returns
returns c = refl
