use Rattle.worker_pool.proofs.Together.{all_kin}
use Rattle.worker_pool.proofs.shared.know_kin.Goals as goal

pub returns : goal.returns
returns g c = all_kin g.met.J.Join.laws (g.W.Work.gives c.args._work.now) c.args._opening.now c.requires
