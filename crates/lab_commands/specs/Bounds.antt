-- What `bound` writes for a plan's text.
use Rattle.std.specs.Prelude.{◌≡◌, ℕ, List, Ok}
use Rattle.lab_plan.specs.Form.{formed}
use Rattle.lab_plan.specs.PlanValue.{PlanValue}
use Rattle.lab_plan.specs.Plans.{IsPlanOfText}
use Rattle.report.specs.Bounds.{bounds_text}
use Rattle.toml.specs.Parse.{parse_document}

-- the line of each job of the text's plan, from the starts of the contexts
pub record IsBounds (text bounds : List ℕ) : Type 0 where
  pub plan : PlanValue
  pub is_plan : IsPlanOfText (formed (parse_document text)) (Ok plan)
  pub is_bounds : bounds ≡ bounds_text 0 plan.jobs
