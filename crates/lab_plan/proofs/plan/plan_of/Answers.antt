use Rattle.std.proofs.Common.{arith, rules}
use Rattle.toml.specs.View.{table_view}
use Rattle.lab_plan.proofs.Items.{job_count_is}
use Rattle.lab_plan.specs.Jobs.{jobs_at}
use Rattle.lab_plan.proofs.plan.plan_of.Goals as goal

pub invariant_of-result : goal.invariant_of-result
invariant_of-result c = omega (arith, job_count_is c.in_ok-jobs.jobs.items (jobs_at (table_view c.args.document.now)) c.in_ok-jobs.ensures.jobs, c.in_ok-check_count.ensures.ok)

pub returns-in-Some : goal.returns-in-Some
returns-in-Some c = search rules
