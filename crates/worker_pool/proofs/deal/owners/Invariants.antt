use Rattle.std.proofs.Common.{◌≡◌, ◌≤◌, ℕ, All, vec_len, vec_capacity}
use Rattle.worker_pool.specs.Rule.{whole}
use Rattle.worker_pool.specs.Owners.{IsOwner, dealt_in, taken_by}
use Rattle.worker_pool.proofs.deal.owners.Given as goal

abbrev pub invariant-loop : goal.invariant-loop
invariant-loop l = record {
  room : l.workers ≤ vec_capacity l.owners;
  count : vec_len l.owners ≡ l.counter;
  owners : All (IsOwner whole) l.owners.items;
  dealt : (h : ℕ → ℕ) → dealt_in h l.owners.items ≡ 0;
  taken : (h : ℕ → ℕ) → taken_by h l.owners.items ≡ 0;
}
