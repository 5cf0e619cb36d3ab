-- The work's seats, and the jobs that were run with them.
use Rattle.std.specs.Prelude.{◌≡◌, ℕ, ◌≤◌, List, [], ◌∷◌, ◌++◌, Option}

-- a seat of the work's own with room for the jobs
pub record HasRoom {S : Type 0} (is_own : S → Type 0) (room_of : S → ℕ) (jobs : ℕ) (s : S) : Type 0 where
  pub own : is_own s
  pub room : jobs ≤ room_of s

-- what was run with the seats beyond what had been run with them before, seat by seat
abbrev pub AreNewRuns : {S N : Type 0} → (S → List (ℕ × Option N)) → List S → List S → List (ℕ × Option N) → Type 0
AreNewRuns runs_of [] [] runs = runs ≡ []
AreNewRuns runs_of [] (s ∷ after) runs = ⊥
AreNewRuns runs_of (b ∷ before) [] runs = ⊥
AreNewRuns {S} {N} runs_of (b ∷ before) (s ∷ after) runs = (first : List (ℕ × Option N)) × (more : List (ℕ × Option N)) × (runs_of s ≡ runs_of b ++ first) × (runs ≡ first ++ more) × AreNewRuns runs_of before after more
