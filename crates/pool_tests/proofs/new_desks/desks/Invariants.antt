use Rattle.std.proofs.Common.{◌≡◌, ◌≤◌, All, vec_len, vec_capacity}
use Rattle.worker_pool.specs.Seats.{HasRoom}
use Rattle.pool_tests.specs.Desks.{IsFree, places}
use Rattle.pool_tests.proofs.new_desks.desks.Given as goal

abbrev pub invariant-loop : goal.invariant-loop
invariant-loop g l = record {
  room : l.many ≤ vec_capacity l.desks;
  count : vec_len l.desks ≡ l.counter;
  free : All (HasRoom IsFree places l.jobs) l.desks.items;
}
