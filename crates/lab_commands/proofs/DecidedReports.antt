-- A plan's text decides its report, where no job is refused.
use Rattle.std.proofs.Common.{◌≡◌, ℕ, List, [], None, refl, sym, ap, ◌∙◌, subst}
use Rattle.checkpoint.specs.Starts.{starts_of}
use Rattle.lab_plan.specs.Form.{formed}
use Rattle.lab_plan.specs.PlanValue.{PlanValue}
use Rattle.lab_plan.proofs.Laws.{plan_unique}
use Rattle.lab_pool.specs.declared.result.LabResult.{LabResult}
use Rattle.lab_pool.specs.Book.{book_after}
use Rattle.lab_pool.proofs.Laws.{results_decided}
use Rattle.report.specs.Reports.{report_text}
use Rattle.toml.specs.Parse.{parse_document}
use Rattle.lab_commands.specs.Reports.{IsLabResult, IsReport}
use Rattle.lab_commands.proofs.PlanOutcomes.{none_refused}

-- results with the same marks and jobs have one report
same_report : (r s : LabResult) → r.marks ≡ s.marks → r.jobs.items ≡ s.jobs.items → report_text r ≡ report_text s
same_report r s marks items = rw (marks, items) refl

-- two reports that `run` may write for one text, with no job refused, are the same bytes
pub report_decided : (text report other : List ℕ) → IsReport text None report → IsReport text None other → report ≡ other
report_decided text report other h g = h.is_report ∙ same_report h.results g.results marks items ∙ sym g.is_report
  where
    plans : h.plan ≡ g.plan
    plans = plan_unique (formed (parse_document text)) h.plan g.plan h.is_plan g.is_plan

    also : IsLabResult h.plan (starts_of h.plan.origin) g.results
    also = subst (λ (p : PlanValue). IsLabResult p (starts_of p.origin) g.results) (sym plans) g.is_result

    items : h.results.jobs.items ≡ g.results.jobs.items
    items = results_decided (starts_of h.plan.origin) [] h.plan.jobs h.results.jobs.items g.results.jobs.items h.is_result.jobs also.jobs (none_refused h.results.jobs.items (sym h.is_refused)) (none_refused g.results.jobs.items (sym g.is_refused))

    marks : h.results.marks ≡ g.results.marks
    marks = h.is_result.book ∙ ap (book_after (starts_of h.plan.origin)) items ∙ sym also.book
