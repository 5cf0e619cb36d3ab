use Rattle.rename_file.proofs.Stacks.{pushed}
use Rattle.rename_file.proofs.free_list.FreeList.push.Goals as goal

pub returns : goal.returns
returns c = pushed c.self.inside.slots c.self.inside.count c.args.self.now c.self.view_is c.self.invariant.0 c.self.invariant.1 c.from.result c.args.register c.from.ensures c.requires
