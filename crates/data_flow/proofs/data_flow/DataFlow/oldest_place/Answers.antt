use Rattle.data_flow.proofs.Selects.{placed_oldest}
use Rattle.data_flow.proofs.data_flow.DataFlow.oldest_place.Goals as goal

pub returns : goal.returns
returns g c = placed_oldest c.self.inside c.args.self.now c.args.context c.oldest_place.result c.self.view_is c.oldest_place.ensures.place
