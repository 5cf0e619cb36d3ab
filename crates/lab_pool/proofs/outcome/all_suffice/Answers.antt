use Rattle.std.proofs.Common.{◌≡◌, ◌+◌, false, [], ◌∷◌, ◌++◌, take, drop, sym, ap, ◌∙◌}
use Rattle.std.proofs.lemmas.List.{take_more, take-append-drop}
use Rattle.lab_plan.specs.declared.job.Job.{Job}
use Rattle.lab_pool.specs.Closed.{are_closed}
use Rattle.lab_pool.proofs.ClosedPlans.{closed_more, closed_not}
use Rattle.lab_pool.proofs.outcome.all_suffice.Goals as goal

pub returns-then-not-suffices : goal.returns-then-not-suffices
returns-then-not-suffices c =
    let jobs = c.args.jobs.now in
    let i = c.loop-job.job-index in
    let starts = c.args.starts.now in
    let more : are_closed starts (take (i + 1) jobs) ≡ false =
    ap (are_closed starts) (take_more jobs i c.job-item.result c.loop-job-test.true ∙ ap (λ (j : Job). take i jobs ++ j ∷ []) (sym c.job-item.is))
    ∙ closed_more starts (take i jobs) c.job-item.result c.loop-job.invariant ∙ sym c.suffices.ensures ∙ c.if-not-suffices.true in
    sym (ap (are_closed starts) (sym (take-append-drop (i + 1) jobs)) ∙ closed_not starts (take (i + 1) jobs) (drop (i + 1) jobs) more)

pub loop-job-preserved : goal.loop-job-preserved
loop-job-preserved c =
    let jobs = c.args.jobs.now in
    let i = c.loop-job.job-index in
    ap (are_closed c.args.starts.now) (take_more jobs i c.job-item.result c.loop-job-test.true ∙ ap (λ (j : Job). take i jobs ++ j ∷ []) (sym c.job-item.is))
    ∙ closed_more c.args.starts.now (take i jobs) c.job-item.result c.loop-job.invariant ∙ sym c.suffices.ensures ∙ c.if-not-suffices.false
