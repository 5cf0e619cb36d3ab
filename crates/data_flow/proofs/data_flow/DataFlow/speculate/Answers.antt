use Rattle.data_flow.proofs.Marks.{speculated}
use Rattle.data_flow.proofs.data_flow.DataFlow.speculate.Goals as goal

pub invariant_of-self : goal.invariant_of-self
invariant_of-self g c = (speculated c.self.inside c.args.self.now c.speculate.new.self c.args.context c.args.stamp c.args.speculative c.self.view_is c.self.invariant c.speculate.ensures).wired

pub returns : goal.returns
returns g c = (speculated c.self.inside c.args.self.now c.speculate.new.self c.args.context c.args.stamp c.args.speculative c.self.view_is c.self.invariant c.speculate.ensures).shown
