use Rattle.std.proofs.Common.{◌≡◌, ◌+◌, ℕ, All}
use Rattle.std.specs.List.{sum_by}
use Rattle.worker_pool.specs.Rule.{whole}
use Rattle.worker_pool.specs.Owners.{IsOwner, dealt_in, taken_by}
use Rattle.worker_pool.proofs.drain.drain.Given as goal

abbrev pub invariant-loop-owner : goal.invariant-loop-owner
invariant-loop-owner g l = record {
  owners : All (IsOwner whole) l.owner-iterator.rest.items;
  left : (h : ℕ → ℕ) → sum_by h l.left.items + taken_by h l.fn.owners.items + dealt_in h l.owner-iterator.rest.items ≡ dealt_in h l.fn.owners.items + taken_by h l.owner-iterator.rest.items;
}
