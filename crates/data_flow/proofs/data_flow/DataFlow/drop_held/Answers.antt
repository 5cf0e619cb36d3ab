use Rattle.data_flow.proofs.Marks.{unheld}
use Rattle.data_flow.proofs.data_flow.DataFlow.drop_held.Goals as goal

pub invariant_of-self : goal.invariant_of-self
invariant_of-self g c = (unheld c.self.inside c.args.self.now c.drop_held.new.self c.self.view_is c.self.invariant c.drop_held.ensures).wired

pub returns : goal.returns
returns g c = (unheld c.self.inside c.args.self.now c.drop_held.new.self c.self.view_is c.self.invariant c.drop_held.ensures).shown
