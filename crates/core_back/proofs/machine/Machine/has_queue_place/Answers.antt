use Rattle.core_back.proofs.Renamable.{queue_places_left}
use Rattle.core_back.proofs.machine.Machine.has_queue_place.Goals as goal

pub returns : goal.returns
returns g c = queue_places_left c.self.inside c.args.self.now c.has_place.result c.self.view_is c.self.invariant c.requires c.has_place.ensures
