use Rattle.std.proofs.Common.{rules}
use Rattle.lab_plan.proofs.fault.PlanFaultDisplay.fmt.Goals as goal

pub returns-in-Form-clause-writes : goal.returns-in-Form-clause-writes
returns-in-Form-clause-writes g c = search rules
