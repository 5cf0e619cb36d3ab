use Rattle.std.proofs.Common.{◌∷◌, []}
use Rattle.worker_pool.proofs.Kept.{puts}
use Rattle.worker_pool.proofs.owner.deal_one.Goals as goal

pub push_as-requires-clause-pushes : goal.push_as-requires-clause-pushes
push_as-requires-clause-pushes c = puts _ _ (c.args.job ∷ []) c.requires
