use Rattle.data_flow.proofs.Counts.{free_left}
use Rattle.data_flow.proofs.data_flow.DataFlow.free_count.Goals as goal

pub returns : goal.returns
returns g c = free_left c.self.inside c.args.self.now c.free_count.result c.self.view_is c.self.invariant c.free_count.ensures
