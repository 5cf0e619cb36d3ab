use Rattle.std.proofs.Common.{rules}
use Rattle.lab_plan.proofs.jobs.read_limit.Goals as goal

pub returns-in-None-clause-limit : goal.returns-in-None-clause-limit
returns-in-None-clause-limit c = search rules

pub returns-in-Some-clause-limit : goal.returns-in-Some-clause-limit
returns-in-Some-clause-limit c = search rules
