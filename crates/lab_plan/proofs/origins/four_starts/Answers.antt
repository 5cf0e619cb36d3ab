use Rattle.std.proofs.Common.{rules}
use Rattle.lab_plan.proofs.origins.four_starts.Goals as goal

pub returns-clause-p3 : goal.returns-clause-p3
returns-clause-p3 c = search rules
