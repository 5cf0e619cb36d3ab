use Rattle.std.proofs.Common.{rules}
use Rattle.lab_plan.proofs.jobs.read_targets.Goals as goal

pub returns-in-None-clause-targets : goal.returns-in-None-clause-targets
returns-in-None-clause-targets c = search rules
