use Rattle.lab_commands.proofs.Unplanned.{IsPlanRefusal-unplanned}
use Rattle.lab_commands.proofs.run.plan.plan_of.Goals as goal

pub returns-in-Ok-clause-ok : goal.returns-in-Ok-clause-ok
returns-in-Ok-clause-ok g c = c.in-Ok.ensures

pub returns-in-Err-clause-err : goal.returns-in-Err-clause-err
returns-in-Err-clause-err g c = IsPlanRefusal-unplanned c.args.text.now c.in-Err.fault c.unplanned.result c.in-Err.ensures c.unplanned.ensures
