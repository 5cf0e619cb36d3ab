-- Desks at which jobs are run.
use Rattle.std.specs.Prelude.{◌≡◌, ◌-◌, ℕ, vec_len, vec_capacity}
use Rattle.pool_tests.specs.declared.desks.Desk.{Desk}

-- each desk may be used
abbrev pub IsFree : Desk → Type 0
IsFree desk = Unit {0}

-- for how many jobs a desk has room
abbrev pub places : Desk → ℕ
places desk = vec_capacity desk.ends - vec_len desk.ends

-- a job's result is its number
abbrev pub IsNumber : ℕ → ℕ → Type 0
IsNumber job result = result ≡ job
