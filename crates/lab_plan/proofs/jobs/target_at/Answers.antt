use Rattle.std.proofs.Common.{rules}
use Rattle.lab_plan.proofs.jobs.target_at.Goals as goal

pub returns-in-None-clause-target : goal.returns-in-None-clause-target
returns-in-None-clause-target c = search rules

pub returns-in-Some-clause-target : goal.returns-in-Some-clause-target
returns-in-Some-clause-target c = search rules
