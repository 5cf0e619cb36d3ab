use Rattle.worker_pool.proofs.Kept.{joins}
use Rattle.worker_pool.proofs.rows.absorb_one.Goals as goal

pub absorb-requires-clause-rule : goal.absorb-requires-clause-rule
absorb-requires-clause-rule c = joins _ _ _ _ c.requires.part
