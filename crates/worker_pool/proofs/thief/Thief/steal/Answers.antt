use Rattle.std.proofs.Common.{arith}
use Rattle.worker_pool.proofs.Kept.{steals}
use Rattle.worker_pool.proofs.thief.Thief.steal.Goals as goal

pub steal_as-requires-clause-takes : goal.steal_as-requires-clause-takes
steal_as-requires-clause-takes g c = let p = c.loop.self.part in steals _ _ (omega arith)
