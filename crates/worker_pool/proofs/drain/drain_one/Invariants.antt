use Rattle.std.proofs.Common.{◌≡◌, ◌+◌, ℕ}
use Rattle.std.specs.List.{sum_by}
use Rattle.crossbeam_deque.specs.Handles.{worker_view}
use Rattle.worker_pool.specs.Rule.{whole}
use Rattle.worker_pool.specs.Owners.{IsOwner}
use Rattle.worker_pool.proofs.drain.drain_one.Given as goal

abbrev pub invariant-loop : goal.invariant-loop
invariant-loop g l = record {
  owner : IsOwner whole l.owner;
  dealt : (worker_view l.owner).dealt ≡ (worker_view l.initial.owner).dealt;
  left : (h : ℕ → ℕ) → sum_by h l.left.items + sum_by h (worker_view l.initial.owner).taken ≡ sum_by h l.initial.left.items + sum_by h (worker_view l.owner).taken;
}
