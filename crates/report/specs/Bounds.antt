-- How many cycles the jobs of a plan need, a line each.
use Rattle.std.specs.Prelude.{ℕ, ◌+◌, List, [], ◌∷◌, ◌++◌, codes, replicate, Option, Some, None}
use Rattle.std.specs.Fmt.{decimal}
use Rattle.core_run.specs.Needed.{cycles_needed}
use Rattle.lab_plan.specs.declared.job.Job.{Job}
use Rattle.lab_pool.specs.Closed.{greatest_lag_of}

-- each context starts at count 0
abbrev pub zeros : List ℕ
zeros = replicate 8 0

-- the number that suffices and the limit, or that no number does
abbrev pub bound_line : ℕ → Option ℕ → ℕ → List ℕ
bound_line number (Some cycles) limit = codes "job " ++ (decimal number ++ (codes " needs " ++ (decimal cycles ++ (codes " limit " ++ (decimal limit ++ codes "\n")))))
bound_line number None limit = codes "job " ++ (decimal number ++ codes " open\n")

-- the line of a job with its number
abbrev pub bound_text : ℕ → Job → List ℕ
bound_text number job = bound_line number (cycles_needed job.profile (greatest_lag_of job.profile) zeros job.targets) job.limit

-- the lines of jobs of which the first has this number
abbrev pub bounds_text : ℕ → List Job → List ℕ
bounds_text number [] = []
bounds_text number (job ∷ jobs) = bound_text number job ++ bounds_text (number + 1) jobs
