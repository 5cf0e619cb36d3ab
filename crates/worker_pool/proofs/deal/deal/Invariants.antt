use Rattle.std.proofs.Common.{◌≡◌, ℕ, All, vec_len}
use Rattle.std.specs.List.{sum_by}
use Rattle.worker_pool.specs.Rule.{whole}
use Rattle.worker_pool.specs.Owners.{IsOwner, dealt_in, taken_by}
use Rattle.worker_pool.specs.Numbers.{numbers}
use Rattle.worker_pool.proofs.deal.deal.Given as goal

abbrev pub invariant-loop-job : goal.invariant-loop-job
invariant-loop-job l = record {
  count : vec_len l.owners ≡ l.workers;
  owners : All (IsOwner whole) l.owners.items;
  dealt : (h : ℕ → ℕ) → dealt_in h l.owners.items ≡ sum_by h (numbers 0 l.job);
  taken : (h : ℕ → ℕ) → taken_by h l.owners.items ≡ 0;
}
