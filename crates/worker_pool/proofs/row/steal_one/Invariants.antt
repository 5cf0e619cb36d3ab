use Rattle.std.proofs.Common.{◌≡◌, ◌-◌, ℕ, length}
use Rattle.worker_pool.specs.Thieves.{taken_in, deques_of}
use Rattle.worker_pool.proofs.row.steal_one.Given as goal

abbrev pub decreases-loop-passed : goal.decreases-loop-passed
decreases-loop-passed g l = l.many - l.passed

-- nothing was taken
abbrev pub invariant-loop-passed : goal.invariant-loop-passed
invariant-loop-passed g l = record {
  many : length l.row.items ≡ l.many;
  same : deques_of l.row.items ≡ deques_of l.initial.row.items;
  taken : (h : ℕ → ℕ) → taken_in h l.row.items ≡ taken_in h l.initial.row.items;
}
