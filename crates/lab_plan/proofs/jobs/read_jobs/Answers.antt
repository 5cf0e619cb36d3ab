use Rattle.std.proofs.Common.{◌≡◌, ap, unwrap_or, ◌∙◌}
use Rattle.std.proofs.lemmas.Result.{IfOk-weaker}
use Rattle.toml.specs.Data.{no_items}
use Rattle.toml.specs.View.{items_view, table_view}
use Rattle.lab_plan.proofs.Items.{faultless_all}
use Rattle.lab_plan.specs.Jobs.{jobs_at}
use Rattle.lab_plan.proofs.jobs.read_jobs.Goals as goal

pub returns-in-Some-clause-faultless : goal.returns-in-Some-clause-faultless
returns-in-Some-clause-faultless c =
    let all : items_view c.deref.result.now ≡ jobs_at (table_view c.args.plan.now) = ap items_view c.deref.ensures.value ∙ ap (λ o. unwrap_or o no_items) c.in-Some.ensures in
    IfOk-weaker c.read_values.result _ _ (λ jobs h. faultless_all (jobs_at (table_view c.args.plan.now)) c.deref.result.now all h) c.read_values.ensures.faultless
