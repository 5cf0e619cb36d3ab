use Rattle.std.proofs.Common.{ap, subst, unwrap_or}
use Rattle.std.specs.Prelude.{OnOk}
use Rattle.toml.specs.Data.{Members, no_members}
use Rattle.lab_plan.specs.Programs.{AllAssemble}
use Rattle.lab_plan.proofs.programs.check_programs.Goals as goal

pub returns-in-Some-clause-ok : goal.returns-in-Some-clause-ok
returns-in-Some-clause-ok c = subst (λ (ms : Members). OnOk c.assemble_each.result (AllAssemble ms)) (ap (λ o. unwrap_or o no_members) c.in-Some.ensures) c.assemble_each.ensures.ok
