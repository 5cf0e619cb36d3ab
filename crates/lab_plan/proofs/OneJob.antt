-- The fields of a job determine it.
use Rattle.std.proofs.Common.{◌≡◌, ℕ, ◌≤◌, List, [], ◌∷◌, map, refl}
use Rattle.std.specs.List.{All}
use Rattle.std.proofs.Props.{props}
use mathlib.Core.HLevel.{Σ_prop_path}
use Rattle.core_profile.proofs.Laws.{one_profile}
use Rattle.lab_plan.specs.declared.job.Job.{Job}
use Rattle.lab_plan.specs.Jobs.{job_fields}

-- a limit within its bound
abbrev Limit : Type 0
Limit = (n : ℕ) × (n ≤ 1099511627776)

-- targets within theirs
abbrev Targets : Type 0
Targets = (ts : List ℕ) × All (λ t. t ≤ 1099511627776) ts

-- equal limits are equal with their bound
one_limit : (x y : Limit) → x.0 ≡ y.0 → x ≡ y
one_limit x y e = let bound : (n : ℕ) → IsProp (n ≤ 1099511627776) = hlevel props in Σ_prop_path bound e

-- equal targets are equal with theirs
one_targets : (x y : Targets) → x.0 ≡ y.0 → x ≡ y
one_targets x y e = let bounds : (ts : List ℕ) → IsProp (All (λ t. t ≤ 1099511627776) ts) = hlevel props in Σ_prop_path bounds e

-- jobs with the same fields are one
pub one_job : (a b : Job) → job_fields a ≡ job_fields b → a ≡ b
one_job a b e =
    let limit = one_limit (a.limit, a.limit_in_range) (b.limit, b.limit_in_range) (λ i. (e i).limit) in
    let targets = one_targets (a.targets, a.targets_in_range) (b.targets, b.targets_in_range) (λ i. (e i).targets) in
    let profile = one_profile a.profile b.profile (λ i. (e i).profile) in
    λ i. record {
      start = (e i).start;
      limit = (limit i).0;
      targets = (targets i).0;
      profile = profile i;
      limit_in_range = (limit i).1;
      targets_in_range = (targets i).1;
    }

-- lists of jobs with the same fields, one by one, are one
pub same_jobs : (xs ys : List Job) → map job_fields xs ≡ map job_fields ys → xs ≡ ys
same_jobs [] [] e = refl
same_jobs [] (y ∷ ys) e = absurd cc
same_jobs (x ∷ xs) [] e = absurd cc
same_jobs (x ∷ xs) (y ∷ ys) e =
    let first : job_fields x ≡ job_fields y = cc in
    let rest : map job_fields xs ≡ map job_fields ys = cc in
    λ i. one_job x y first i ∷ same_jobs xs ys rest i
