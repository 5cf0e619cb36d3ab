use Rattle.core_back.proofs.Machines.{all_live, all_few, all_sound}
use Rattle.core_back.proofs.machine.Machine.cycle.Goals as goal

pub returns-clause-live : goal.returns-clause-live
returns-clause-live g c = all_live c.self.inside c.args.self.now c.self.view_is c.self.invariant

pub returns-clause-few : goal.returns-clause-few
returns-clause-few g c = all_few c.self.inside c.args.self.now c.self.view_is c.self.invariant

pub returns-clause-sound : goal.returns-clause-sound
returns-clause-sound g c = all_sound c.self.inside c.args.self.now c.self.view_is c.self.invariant
