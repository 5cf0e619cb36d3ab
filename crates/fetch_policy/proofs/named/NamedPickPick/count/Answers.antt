use Rattle.std.proofs.Common.{arith}
use Rattle.std.proofs.lemmas.Grind.{common_steps}
use Rattle.fetch_policy.proofs.named.NamedPickPick.count.Goals as goal

pub returns : goal.returns
returns c = grind (arith, common_steps, c.count.ensures, c.count-2.ensures, c.count-3.ensures, c.count-4.ensures, c.count-5.ensures)
