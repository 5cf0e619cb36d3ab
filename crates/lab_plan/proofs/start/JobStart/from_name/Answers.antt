use Rattle.std.proofs.Common.{rules}
use Rattle.lab_plan.proofs.start.JobStart.from_name.Goals as goal

pub returns-else-eq-2 : goal.returns-else-eq-2
returns-else-eq-2 c = search rules

pub returns-then-eq : goal.returns-then-eq
returns-then-eq c = search rules
