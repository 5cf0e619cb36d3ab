-- What a plan is: an origin and the jobs in order.
use Rattle.std.specs.Prelude.{List}
use Rattle.lab_plan.specs.declared.job.Job.{Job}
use Rattle.origin_set.specs.OriginValue.{OriginValue}

-- the origin that the contexts start from, and the jobs in order
pub record PlanValue : Type 0 where
  pub origin : OriginValue
  pub jobs : List Job
