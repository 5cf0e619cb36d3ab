use Rattle.data_flow.proofs.Marks.{released_all}
use Rattle.data_flow.proofs.data_flow.DataFlow.release.Goals as goal

pub invariant_of-self : goal.invariant_of-self
invariant_of-self g c = (released_all c.self.inside c.args.self.now c.release.new.self c.self.view_is c.self.invariant c.release.ensures).wired

pub returns : goal.returns
returns g c = (released_all c.self.inside c.args.self.now c.release.new.self c.self.view_is c.self.invariant c.release.ensures).shown
