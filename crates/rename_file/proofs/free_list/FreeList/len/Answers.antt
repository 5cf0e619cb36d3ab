use Rattle.std.proofs.Common.{arith}
use Rattle.rename_file.proofs.Stacks.{counted}
use Rattle.rename_file.proofs.free_list.FreeList.len.Goals as goal

pub returns : goal.returns
returns c = omega (arith, c.from.ensures, counted c.self.inside.slots c.self.inside.count c.args.self.now c.self.view_is c.self.invariant.0 c.self.invariant.1)
