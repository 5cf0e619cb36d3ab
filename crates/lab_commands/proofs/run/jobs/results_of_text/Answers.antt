use Rattle.std.proofs.lemmas.Result.{err_from_is_err_and}
use Rattle.lab_commands.proofs.Unplanned.{IsRunRefusal-plan}
use Rattle.lab_commands.proofs.run.jobs.results_of_text.Goals as goal

pub returns-in_err-plan-clause-err : goal.returns-in_err-plan-clause-err
returns-in_err-plan-clause-err g c =
    let p = err_from_is_err_and c.from_residual.result c.from_residual.ensures.1 in
    rw (p.1, p.2) (IsRunRefusal-plan c.args.text.now c.in_err-plan.field-0.0 c.in_err-plan.ensures.err)
