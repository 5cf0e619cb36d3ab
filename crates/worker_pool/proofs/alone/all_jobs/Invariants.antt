use Rattle.std.proofs.Common.{◌≡◌, ◌≤◌, vec_len, vec_capacity}
use Rattle.worker_pool.specs.Numbers.{numbers}
use Rattle.worker_pool.proofs.alone.all_jobs.Given as goal

abbrev pub invariant-loop-job : goal.invariant-loop-job
invariant-loop-job l = record {
  room : l.jobs ≤ vec_capacity l.all;
  count : vec_len l.all ≡ l.job;
  all : l.all.items ≡ numbers 0 l.job;
}
