use Rattle.std.proofs.Common.{refl}
use Rattle.join_law.proofs.context.Ctx.numbered.Goals as goal

pub returns : goal.returns
returns c = refl
