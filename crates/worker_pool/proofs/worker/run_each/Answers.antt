use Rattle.std.proofs.Common.{arith, ap, ◌∙◌, ◌++◌, ◌∷◌, [], length, List}
use Rattle.worker_pool.proofs.Logs.{log_of_more, next_jobs}
use Rattle.worker_pool.proofs.worker.run_each.Goals as goal

pub loop-job-preserved : goal.loop-job-preserved
loop-job-preserved g c =
    let i = c.loop-job.invariant in
    let steps = c.in-Some.ensures.steps.0 in
    let one = c.run_one-log.ensures in
    let t = one.runs in
    let items = t.2 ∙ ap (λ (es : List _). es ++ (c.in-Some.job, t.0) ∷ []) c.reserve.ensures.items in
    record {
      own = one.own;
      room = (let l = ap length steps in let r = i.room in let s = one.room in omega arith);
      logged = one.logged;
      ran = λ before r. log_of_more _ _ _ _ _ _ before c.loop-job.seat _ c.loop-job.log _ c.in-Some.job t.0 (i.ran before r) one.own one.room t.1 items one.logged;
      jobs = next_jobs c.loop-job.log.ends.items _ _ _ _ c.in-Some.job t.0 items steps i.jobs;
    }
