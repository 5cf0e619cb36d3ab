-- Results of one plan that agree.
use Rattle.std.specs.Prelude.{◌≡◌, List, [], ◌∷◌}
use Rattle.lab_plan.specs.declared.job.Job.{Job}
use Rattle.lab_plan.specs.declared.start.JobStart.TheVariants.{Opening}
use Rattle.lab_pool.specs.declared.result.JobEnd.{JobEnd}
use Rattle.lab_pool.specs.declared.result.JobEnd.TheVariants.{Refused, Ran}
use Rattle.lab_pool.specs.declared.result.JobResult.{JobResult}

-- two ends of a job agree: where it ran in both, outcome, figures, starts and counts are the same
abbrev pub Agree : JobEnd → JobEnd → Type 0
Agree Refused b = Unit {0}
Agree (Ran run) Refused = Unit {0}
Agree (Ran run) (Ran other) = run ≡ other

-- of each job that starts at the opening
abbrev pub AgreeFromOpening : List Job → List JobResult → List JobResult → Type 0
AgreeFromOpening [] rs ss = Unit {0}
AgreeFromOpening (j ∷ js) [] ss = Unit {0}
AgreeFromOpening (j ∷ js) (r ∷ rs) [] = Unit {0}
AgreeFromOpening (j ∷ js) (r ∷ rs) (s ∷ ss) = (j.start ≡ Opening → Agree r.end s.end) × AgreeFromOpening js rs ss
