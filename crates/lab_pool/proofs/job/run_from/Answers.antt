use Rattle.std.proofs.Common.{refl, sym, ap, subst}
use Rattle.branch_predict.specs.Stated.{stated}
use Rattle.data_tags.specs.Latency.{is_lag_of}
use Rattle.fetch_policy.specs.Keys as pick
use Rattle.issue_queue.specs.Keys as order
use Rattle.lawful_cycle.specs.Cycle.{laws_of}
use Rattle.core_cycle.specs.Shown.{shown}
use Rattle.lab_pool.specs.declared.result.JobRun.{JobRun}
use Rattle.lab_pool.specs.Counts.{counts_in}
use Rattle.lab_pool.specs.Allowed.{IsJobRun}
use Rattle.lab_pool.proofs.Jobs.{left_known, job_ran}
use Rattle.lab_pool.proofs.job.run_from.Goals as goal

pub core_of-requires-clause-aligned : goal.core_of-requires-clause-aligned
core_of-requires-clause-aligned c = c.requires

pub core_of-requires-clause-targets : goal.core_of-requires-clause-targets
core_of-requires-clause-targets c = c.targets_of-targets.ensures.bound

pub returns-clause-run : goal.returns-clause-run
returns-clause-run c =
    subst (λ (r : JobRun). IsJobRun c.args.job.now c.args.start r) (sym c.told.ensures)
    (job_ran c.args.job.now c.args.start c.args.start c.run_to-run.result.marks c.targets_of-targets.result c.counts_of-starts.result (counts_in c.run_to-run.result.marks) c.in_ok-core.core.pick c.in_ok-core.core.order c.in_ok-core.core.delay.latencies c.run_to-run.result.outcome c.run_to-run.result.figures c.in_ok-core.core.guess c.in_ok-core.core.delay (shown c.in_ok-core.core) c.run_to-run.ensures.run.last refl c.counts_of-starts.ensures c.targets_of-targets.ensures.targets c.in_ok-core.ensures.first c.in_ok-core.ensures.pick c.in_ok-core.ensures.order c.in_ok-core.ensures.delay c.run_to-run.ensures.run.run c.run_to-run.ensures.run.marks_at refl c.in_ok-core.ensures.tables c.in_ok-core.ensures.tags c.run_to-run.ensures.stepped)

pub returns-clause-left : goal.returns-clause-left
returns-clause-left c =
    left_known c.args.start.c0.origin c.args.start c.run_to-run.result.marks c.args.job.now c.targets_of-targets.result (laws_of (pick.named_key c.in_ok-core.core.pick) (order.named_key c.in_ok-core.core.order) (λ x. stated) (λ x kind address. is_lag_of c.in_ok-core.core.delay.latencies kind)) c.args.job.now.limit c.run_to-run.result.outcome c.run_to-run.result.figures (shown c.in_ok-core.core) c.run_to-run.ensures.run.last c.requires c.in_ok-core.ensures.first c.run_to-run.ensures.run.run c.run_to-run.ensures.run.marks_at

pub returns-clause-counts : goal.returns-clause-counts
returns-clause-counts c = ap (λ (r : JobRun). r.counts) c.told.ensures
