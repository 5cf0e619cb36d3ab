use Rattle.std.proofs.Common.{subst, sym}
use Rattle.std.proofs.lemmas.Result.{IfErr-weaker, IfOk-weaker}
use Rattle.lab_commands.specs.Commands.{IsPlanRefusal}
use Rattle.lab_commands.proofs.run.bound.bounds_of.Goals as goal

pub returns-clause-ok : goal.returns-clause-ok
returns-clause-ok g c =
    IfOk-weaker c.bounds_of_plan-bounds.result _ _ (λ bounds is. record {
      plan = c.in_ok-plan.plan;
      is_plan = c.in_ok-plan.ensures.ok;
      is_bounds = is;
    }) c.bounds_of_plan-bounds.ensures.ok

pub returns-clause-err : goal.returns-clause-err
returns-clause-err g c =
    IfErr-weaker c.bounds_of_plan-bounds.result _ _ (λ refusal h. subst (IsPlanRefusal c.args.text.now) (sym h) tt) c.bounds_of_plan-bounds.ensures.err
