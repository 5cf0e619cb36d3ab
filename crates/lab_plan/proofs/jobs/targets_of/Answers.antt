use Rattle.std.proofs.Common.{rules}
use Rattle.lab_plan.proofs.jobs.targets_of.Goals as goal

pub returns-clause-targets : goal.returns-clause-targets
returns-clause-targets c = search rules
