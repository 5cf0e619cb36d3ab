use Rattle.std.proofs.Common.{rules}
use Rattle.lab_plan.proofs.programs.check_program.Goals as goal

pub returns-in-Err-clause-ok : goal.returns-in-Err-clause-ok
returns-in-Err-clause-ok c = search rules
