-- What was run with a seat.
use Rattle.std.specs.Prelude.{◌≡◌, ℕ, ◌+◌, List, ◌++◌, Option}
use Rattle.worker_pool.specs.declared.log.Log.{Log}
use Rattle.worker_pool.specs.Numbers.{ended}
use Rattle.worker_pool.specs.Results.{IsSumOfEnds}

-- the log has what was run with a seat since it was as before, and the join of one result of each job that was not refused
pub record IsLogOf {S J N : Type 0} (is_own : S → Type 0) (room_of : S → ℕ) (runs_of : S → List (ℕ × Option N)) (gives : ℕ → J → Type 0) (is_kin : J → J → Type 0) (joined : J → J → J) (before after : S) (log : Log J N) : Type 0 where
  pub own : is_own after
  pub runs : runs_of after ≡ runs_of before ++ log.ends.items
  pub room : room_of after + ended (λ _. 1) log.ends.items ≡ room_of before
  pub logged : IsSumOfEnds gives is_kin joined log.ends.items log.total
