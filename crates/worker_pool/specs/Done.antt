-- What is promised of jobs that many workers ran.
use Rattle.std.specs.Prelude.{◌≡◌, ℕ, List, Option, vec_len}
use Rattle.std.specs.List.{sum_by}
use Rattle.worker_pool.specs.declared.done.Done.{Done}
use Rattle.worker_pool.specs.Numbers.{numbered}
use Rattle.worker_pool.specs.Results.{IsTotal}
use Rattle.worker_pool.specs.Seats.{AreNewRuns}

-- each job was run once with some seat, and has the end that it had there: both lists weigh the same, however their items are weighed. One worker runs the jobs in their order. The total is the join of the opening and one result of each job that was not refused
pub record IsDone {S J N : Type 0} (runs_of : S → List (ℕ × Option N)) (gives : ℕ → J → Type 0) (is_kin : J → J → Type 0) (joined : J → J → J) (jobs workers : ℕ) (before : List S) (opening : J) (d : Done S J N) : Type 0 where
  pub many : vec_len d.ends ≡ jobs
  pub runs : List (ℕ × Option N)
  pub by_seats : AreNewRuns runs_of before d.seats.items runs
  pub each_once : (w : ℕ × Option N → ℕ) → sum_by w runs ≡ sum_by w (numbered 0 d.ends.items)
  pub in_order : workers ≡ 1 → runs ≡ numbered 0 d.ends.items
  pub is_total : IsTotal gives is_kin joined opening runs d.total
