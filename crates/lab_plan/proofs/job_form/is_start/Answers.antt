use Rattle.std.proofs.Common.{rules}
use Rattle.lab_plan.proofs.job_form.is_start.Goals as goal

pub returns-in-Some : goal.returns-in-Some
returns-in-Some c = search rules
