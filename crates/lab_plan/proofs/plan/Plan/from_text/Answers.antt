use Rattle.std.proofs.Common.{rules}
use Rattle.lab_plan.proofs.plan.Plan.from_text.Goals as goal

pub returns : goal.returns
returns c = search rules

pub returns-in_err-table : goal.returns-in_err-table
returns-in_err-table c = search rules
