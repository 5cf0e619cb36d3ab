use Rattle.worker_pool.proofs.Kept.{forks}
use Rattle.worker_pool.proofs.rows.cut_one.Goals as goal

pub another-pass-requires : goal.another-pass-requires
another-pass-requires c = forks _ _ c.requires
