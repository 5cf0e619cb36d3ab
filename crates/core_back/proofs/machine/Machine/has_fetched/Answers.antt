use Rattle.std.proofs.Common.{arith}
use Rattle.core_back.proofs.Machines.{at_context}
use Rattle.core_back.proofs.Renamable.{has_oldest, some_fetched}
use Rattle.core_back.proofs.machine.Machine.has_fetched.Goals as goal

pub returns : goal.returns
returns g c =
    let h = at_context c.self.inside c.args.self.now c.args.context c.index.result c.index-track.result.now c.self.view_is c.self.invariant (omega (arith, c.index.ensures)) c.index.ensures.value c.index-track.ensures in
    some_fetched c.self.inside c.args.self.now c.args.context c.index-track.result.now (has_oldest c.self.inside c.args.self.now c.args.context c.index-track.result.now c.self.view_is h) c.has_fetched.result c.has_fetched.ensures
