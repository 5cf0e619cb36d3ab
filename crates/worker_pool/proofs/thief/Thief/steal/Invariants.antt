use Rattle.std.proofs.Common.{◌≡◌}
use Rattle.crossbeam_deque.specs.Handles.{view, stealer_deque}
use Rattle.worker_pool.proofs.thief.Thief.steal.Given as goal

-- nothing is known to change until a job is there
abbrev pub invariant-loop : goal.invariant-loop
invariant-loop g l = record {
  deque : stealer_deque l.self.stealer ≡ stealer_deque l.initial.self.stealer;
  same : view l.self.pass ≡ view l.initial.self.pass;
}
