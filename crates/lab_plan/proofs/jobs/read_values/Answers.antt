use Rattle.std.proofs.Common.{◌≡◌, ◌++◌, ◌∷◌, [], not, true, ap, length, ◌∙◌, arith, rules}
use Rattle.std.specs.Prelude.{is_ok, if◌then◌else◌}
use Rattle.std.proofs.Common.{length-append}
use Rattle.lab_plan.proofs.Items.{jobs_more}
use Rattle.lab_plan.proofs.Refused.{faultless_more, refused_job}
use Rattle.lab_plan.proofs.jobs.read_values.Goals as goal

pub returns-in-Err-clause-err : goal.returns-in-Err-clause-err
returns-in-Err-clause-err c =
    refused_job c.args.values.now c.loop-value.value-index c.value-item.result c.len.result c.in-Err.fault (omega (arith, c.len.ensures, c.loop-value.invariant.count)) c.loop-value-test.true c.value-item.is c.loop-value.invariant.faultless c.in-Err.ensures.err

pub loop-value-preserved : goal.loop-value-preserved
loop-value-preserved c =
    let pushed : is_ok c.push.result ≡ true = c.is_err.ensures.negation ∙ ap not c.if-is_err.false in
    let items : c.push.new.self.items ≡ c.loop-value.jobs.items ++ c.in-Ok.job ∷ [] = c.push.ensures.items ∙ ap (λ b. if b then c.loop-value.jobs.items ++ c.in-Ok.job ∷ [] else c.loop-value.jobs.items) pushed in
    record {
      count = ap length items ∙ omega (arith, length-append c.loop-value.jobs.items (c.in-Ok.job ∷ []), c.loop-value.invariant.count);
      jobs = jobs_more c.loop-value.jobs.items c.push.new.self.items c.in-Ok.job c.args.values.now c.loop-value.value-index c.value-item.result items c.loop-value-test.true c.value-item.is c.in-Ok.ensures.ok c.loop-value.invariant.jobs;
      faultless = faultless_more c.args.values.now c.loop-value.value-index c.value-item.result c.loop-value-test.true c.value-item.is c.loop-value.invariant.faultless c.in-Ok.ensures.faultless;
    }

pub returns-then-is_err-clause-err : goal.returns-then-is_err-clause-err
returns-then-is_err-clause-err c = search rules
