use Rattle.std.proofs.Common.{◌≤◌}
use Rattle.worker_pool.specs.Shifts.{IsShiftOf}
use Rattle.worker_pool.specs.Numbers.{ended}
use Rattle.worker_pool.proofs.worker.run_kit.Given as goal

-- the log has the jobs that the worker took
abbrev pub invariant-loop : goal.invariant-loop
invariant-loop g l = record {
  did : IsShiftOf (g.W.Work.is_own l.work) g.W.Work.room g.W.Work.runs (g.W.Work.gives l.work) g.J.Join.is_kin g.J.Join.joined l.fn.kit l.shift;
  few : ended (λ _. 1) l.shift.log.ends.items ≤ l.counter;
}
