-- What workers did.
use Rattle.std.specs.Prelude.{◌≡◌, ℕ, ◌+◌, List, Option, map}
use Rattle.std.specs.declared.alloc.Global.{Global}
use Rattle.std.specs.declared.vec.Vec.{Vec}
use Rattle.worker_pool.specs.declared.thief.Thief.{Thief}
use Rattle.worker_pool.specs.declared.kit.Kit.{Kit}
use Rattle.worker_pool.specs.declared.shift.Shift.{Shift}
use Rattle.worker_pool.specs.declared.turn.Turn.{Turn}
use Rattle.worker_pool.specs.Numbers.{ended}
use Rattle.worker_pool.specs.Owners.{Owner}
use Rattle.worker_pool.specs.Logs.{IsLogOf}
use Rattle.worker_pool.specs.Supplies.{SameDeques, taken_from}

-- the worker ran the jobs that it took
pub record IsShiftOf {S J N : Type 0} (is_own : S → Type 0) (room_of : S → ℕ) (runs_of : S → List (ℕ × Option N)) (gives : ℕ → J → Type 0) (is_kin : J → J → Type 0) (joined : J → J → J) (kit : Kit S) (shift : Shift S J N) : Type 0 where
  pub log : IsLogOf is_own room_of runs_of gives is_kin joined kit.seat shift.seat shift.log
  pub same : SameDeques kit.supply shift.supply
  pub taken : (h : ℕ → ℕ) → taken_from h shift.supply ≡ taken_from h kit.supply + ended h shift.log.ends.items

abbrev pub owners_in : {S J N : Type 0} → List (Shift S J N) → List Owner
owners_in shifts = map (λ s. s.supply.owner) shifts

abbrev pub rows_in : {S J N : Type 0} → List (Shift S J N) → List (Vec Thief Global)
rows_in shifts = map (λ s. s.supply.row) shifts

abbrev pub turn_of : {S J N : Type 0} → Shift S J N → Turn S J N
turn_of shift = record { seat = shift.seat; log = shift.log }

abbrev pub turns_of : {S J N : Type 0} → List (Shift S J N) → List (Turn S J N)
turns_of shifts = map (λ s. turn_of s) shifts
