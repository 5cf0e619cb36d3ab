-- Jobs by their numbers. A list of jobs is weighed by what each job weighs: two lists that weigh the same, whatever the jobs weigh, have each job equally often
use Rattle.std.specs.Prelude.{ℕ, zero, suc, List, [], ◌∷◌, Option, map}
use Rattle.std.specs.List.{sum_by}

-- n numbers from a on
abbrev pub numbers : ℕ → ℕ → List ℕ
numbers a zero = []
numbers a (suc n) = a ∷ numbers (suc a) n

-- the ends of the jobs from k on, each with its job
abbrev pub numbered : {N : Type 0} → ℕ → List (Option N) → List (ℕ × Option N)
numbered k [] = []
numbered k (x ∷ xs) = (k, x) ∷ numbered (suc k) xs

-- the jobs that ended, in their order
abbrev pub jobs_of : {N : Type 0} → List (ℕ × Option N) → List ℕ
jobs_of ends = map (λ e. e.0) ends

-- the weight of the jobs that ended
abbrev pub ended : {N : Type 0} → (ℕ → ℕ) → List (ℕ × Option N) → ℕ
ended h ends = sum_by (λ e. h e.0) ends
