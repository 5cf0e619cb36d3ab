-- Plans whose outcome can be read off them, and that outcome.
use Rattle.std.specs.Prelude.{◌≡◌, ℕ, ◌<◌, max, nat_le, Bool, true, false, ◌&&◌, List, [], ◌∷◌, slice_index, Option, Some, None}
use Rattle.hart_step.specs.State.{State}
use Rattle.join_law.specs.Eight.{place_of}
use Rattle.join_law.specs.declared.places.Eight.{Eight}
use Rattle.checkpoint.specs.MarkValue.{MarkValue, state_of}
use Rattle.core_profile.specs.declared.profile.Profile.{Profile}
use Rattle.core_run.specs.Needed.{cycles_needed}
use Rattle.lab_plan.specs.declared.job.Job.{Job}
use Rattle.lab_pool.specs.declared.result.JobEnd.{JobEnd}
use Rattle.lab_pool.specs.declared.result.JobEnd.TheVariants.{Refused, Ran}
use Rattle.lab_pool.specs.declared.result.JobResult.{JobResult}

-- the greatest lag of a core of a profile: the greatest of its five latencies
abbrev pub greatest_lag_of : Profile → ℕ
greatest_lag_of p = max (max (max p.alu_latency p.branch_latency) p.store_latency) (max p.hit_latency p.miss_latency)

-- there is a number that suffices, and the limit is at least as great
abbrev pub is_met : Option ℕ → ℕ → Bool
is_met None limit = false
is_met (Some n) limit = nat_le n limit

-- a job that starts at these counts has a policy under which a core never stalls, and a limit that suffices
abbrev pub is_closed_job : List ℕ → Job → Bool
is_closed_job starts job = is_met (cycles_needed job.profile (greatest_lag_of job.profile) starts job.targets) job.limit

-- so has each job
abbrev pub are_closed : List ℕ → List Job → Bool
are_closed starts [] = true
are_closed starts (j ∷ js) = is_closed_job starts j && are_closed starts js

-- a job wasn't refused
abbrev pub HasRun : JobEnd → Type 0
HasRun Refused = ⊥
HasRun (Ran run) = Unit {0}

-- none was
abbrev pub NoneRefused : List JobResult → Type 0
NoneRefused [] = Unit {0}
NoneRefused (r ∷ rs) = HasRun r.end × NoneRefused rs

-- the greatest of a number and the targets of a context
abbrev pub most_wanted : ℕ → ℕ → List Job → ℕ
most_wanted c n [] = n
most_wanted c n (j ∷ js) = most_wanted c (max (slice_index j.targets c) n) js

-- plain RV64I reaches the count of each of these marks
abbrev pub AreReached : Eight MarkValue → Type 0
AreReached marks = (c : ℕ) → c < 8 → (s : State) × (state_of (place_of marks c) ≡ Some s)
