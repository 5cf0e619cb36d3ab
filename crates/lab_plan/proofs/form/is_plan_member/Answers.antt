use Rattle.std.proofs.Common.{rules}
use Rattle.lab_plan.proofs.form.is_plan_member.Goals as goal

pub returns-then-eq-2 : goal.returns-then-eq-2
returns-then-eq-2 c = search rules
