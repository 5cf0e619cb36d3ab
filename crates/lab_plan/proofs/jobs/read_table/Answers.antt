use Rattle.std.proofs.Common.{rules}
use Rattle.lab_plan.proofs.jobs.read_table.Goals as goal

pub returns-clause-ok : goal.returns-clause-ok
returns-clause-ok c = search rules
