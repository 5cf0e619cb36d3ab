-- When what issues is due.
use Rattle.std.specs.Prelude.{ℕ, ◌+◌}
use Rattle.data_tags.specs.declared.delay.Lag.{Lag}
use Rattle.core_view.specs.declared.outcome.Outcome.{Outcome}
use Rattle.core_view.specs.declared.entry.Execution.{Execution}

-- an outcome that is due after a lag from a cycle on
abbrev pub due_after : ℕ → Lag → Outcome → Execution
due_after cycle lag outcome = record { due = cycle + lag.cycles; miss = lag.miss; outcome = outcome }
