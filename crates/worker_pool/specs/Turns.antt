-- What workers leave, turn by turn.
use Rattle.std.specs.Prelude.{ℕ, ◌≤◌, ◌+◌, List, [], ◌∷◌}
use Rattle.std.specs.List.{sum_by}
use Rattle.worker_pool.specs.declared.turn.Turn.{Turn}
use Rattle.worker_pool.specs.Numbers.{ended}
use Rattle.worker_pool.specs.Results.{IsSumOfEnds}

-- a turn with a seat of the work's own, which had room for the jobs
pub record IsTurn {S J N : Type 0} (is_own : S → Type 0) (room_of : S → ℕ) (gives : ℕ → J → Type 0) (is_kin : J → J → Type 0) (joined : J → J → J) (jobs : ℕ) (t : Turn S J N) : Type 0 where
  pub own : is_own t.seat
  pub room : jobs ≤ room_of t.seat + ended (λ _. 1) t.log.ends.items
  pub logged : IsSumOfEnds gives is_kin joined t.log.ends.items t.log.total

-- the weight of the jobs that ended in turns
abbrev pub turns_ended : {S J N : Type 0} → (ℕ → ℕ) → List (Turn S J N) → ℕ
turns_ended h turns = sum_by (λ t. ended h t.log.ends.items) turns

-- pair by pair
abbrev pub Each : {X Y : Type 0} → (X → Y → Type 0) → List X → List Y → Type 0
Each R [] [] = Unit {0}
Each R [] (y ∷ ys) = ⊥
Each R (x ∷ xs) [] = ⊥
Each R (x ∷ xs) (y ∷ ys) = R x y × Each R xs ys
