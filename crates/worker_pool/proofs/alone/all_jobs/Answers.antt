use Rattle.std.proofs.Common.{arith, ap, sym, ◌∙◌, ◌++◌, ◌∷◌, [], ℕ, List}
use Rattle.worker_pool.proofs.Owners.{numbers_next}
use Rattle.worker_pool.proofs.alone.all_jobs.Goals as goal

pub loop-job-preserved : goal.loop-job-preserved
loop-job-preserved c = let i = c.loop-job.invariant in let push = c.push_reserved.ensures in record {
  room = (let a = push.capacity in let r = i.room in omega arith);
  count = (let a = push.len in let b = i.count in omega arith);
  all = push.items ∙ (ap (λ (l : List ℕ). l ++ c.loop-job.job ∷ []) i.all ∙ sym (numbers_next c.loop-job.job));
}
