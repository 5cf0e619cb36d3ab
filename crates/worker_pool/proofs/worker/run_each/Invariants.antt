use Rattle.std.proofs.Common.{◌≡◌, ◌≤◌, ◌++◌, length}
use Rattle.worker_pool.specs.Results.{IsSumOfEnds}
use Rattle.worker_pool.specs.Logs.{IsLogOf}
use Rattle.worker_pool.specs.Numbers.{jobs_of}
use Rattle.worker_pool.proofs.worker.run_each.Given as goal

abbrev pub invariant-loop-job : goal.invariant-loop-job
invariant-loop-job g l = record {
  own : g.W.Work.is_own l.work l.seat;
  room : length l.job-iterator.rest.items ≤ g.W.Work.room l.seat;
  logged : IsSumOfEnds (g.W.Work.gives l.work) g.J.Join.is_kin g.J.Join.joined l.log.ends.items l.log.total;
  ran : (before : g.row.W-Seat.Denot) → IsLogOf (g.W.Work.is_own l.work) g.W.Work.room g.W.Work.runs (g.W.Work.gives l.work) g.J.Join.is_kin g.J.Join.joined before l.initial.seat l.initial.log → IsLogOf (g.W.Work.is_own l.work) g.W.Work.room g.W.Work.runs (g.W.Work.gives l.work) g.J.Join.is_kin g.J.Join.joined before l.seat l.log;
  jobs : jobs_of l.log.ends.items ++ l.job-iterator.rest.items ≡ jobs_of l.initial.log.ends.items ++ l.fn.jobs.items;
}
