use Rattle.std.proofs.Common.{rules}
use Rattle.lab_plan.proofs.form.is_plan_form.Goals as goal

pub loop-key-preserved : goal.loop-key-preserved
loop-key-preserved c = search rules
