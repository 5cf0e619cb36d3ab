use Rattle.std.proofs.Common.{◌≡◌, ◌+◌, ◌≤◌, ◌++◌, map, length, vec_len, vec_capacity}
use Rattle.worker_pool.proofs.order.only_ends.Given as goal

abbrev pub invariant-loop-end : goal.invariant-loop-end
invariant-loop-end g l = record {
  room : l.jobs ≤ vec_capacity l.only;
  count : vec_len l.only + length l.end-iterator.rest.items ≡ l.jobs;
  ends : l.only.items ++ map (λ e. e.1) l.end-iterator.rest.items ≡ map (λ e. e.1) l.fn.ends.items;
}
