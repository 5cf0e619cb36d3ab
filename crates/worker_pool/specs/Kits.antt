-- What workers begin with.
use Rattle.std.specs.Prelude.{ℕ, ◌≤◌, List, map}
use Rattle.std.specs.declared.alloc.Global.{Global}
use Rattle.atomic_blocks.specs.Lent.{RowsId}
use Rattle.worker_pool.specs.declared.kit.Kit.{Kit}
use Rattle.worker_pool.specs.Owners.{Owner}
use Rattle.worker_pool.specs.Thieves.{IsNewRow}

abbrev pub seats_of : {S : Type 0} → List (Kit S) → List S
seats_of kits = map (λ k. k.seat) kits

abbrev pub owners_of : {S : Type 0} → List (Kit S) → List Owner
owners_of kits = map (λ k. k.supply.owner) kits

-- a kit with a thief for each deque, of which none has taken a job
abbrev pub IsKit : {S : Type 0} → List (RowsId × Global) → Kit S → Type 0
IsKit deques kit = IsNewRow deques kit.supply.row

-- a kit whose seat is the work's own and has room for the jobs
pub record IsReady {S : Type 0} (is_own : S → Type 0) (room_of : S → ℕ) (jobs : ℕ) (kit : Kit S) : Type 0 where
  pub own : is_own kit.seat
  pub room : jobs ≤ room_of kit.seat
