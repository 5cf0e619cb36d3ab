use Rattle.data_flow.proofs.Marks.{held}
use Rattle.data_flow.proofs.data_flow.DataFlow.hold.Goals as goal

pub invariant_of-self : goal.invariant_of-self
invariant_of-self g c = (held c.self.inside c.args.self.now c.hold.new.self c.args.context c.args.stamp c.args.held c.self.view_is c.self.invariant c.hold.ensures).wired

pub returns : goal.returns
returns g c = (held c.self.inside c.args.self.now c.hold.new.self c.args.context c.args.stamp c.args.held c.self.view_is c.self.invariant c.hold.ensures).shown
