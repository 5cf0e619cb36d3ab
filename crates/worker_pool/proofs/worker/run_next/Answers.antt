use Rattle.std.proofs.Common.{◌++◌, ◌∷◌, [], ◌∙◌, ap, List}
use Rattle.worker_pool.proofs.Shifts.{shift_of_more}
use Rattle.worker_pool.proofs.worker.run_next.Goals as goal

pub returns-in-Some-clause-did : goal.returns-in-Some-clause-did
returns-in-Some-clause-did g c = λ kit d. let t = c.run_one-log.ensures.runs in
    shift_of_more _ _ _ _ _ _ kit c.args.shift _ c.in-Some.job t.0 d c.run_one-log.ensures.own c.run_one-log.ensures.room t.1 (t.2 ∙ ap (λ (es : List _). es ++ (c.in-Some.job, t.0) ∷ []) c.reserve.ensures.items) c.find_job.ensures.same c.in-Some.ensures.taken c.run_one-log.ensures.logged
