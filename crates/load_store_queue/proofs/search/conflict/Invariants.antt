use Rattle.std.proofs.Common.{◌≡◌, ℕ, ◌<◌, ◌≤◌, ◌-◌, false}
use Rattle.flight.specs.Flights.{entry_in}
use Rattle.load_store_queue.proofs.LoadsBehind.{conflicts}
use Rattle.load_store_queue.proofs.search.conflict.Given as goal

abbrev pub invariant-loop-younger : goal.invariant-loop-younger
invariant-loop-younger g l = record {
  behind : l.place < l.from;
  few : l.from ≤ 64;
  past : (i : ℕ) → i < l.from → conflicts (entry_in l.flight.entries l.place).stamp l.bytes (entry_in l.flight.entries i) ≡ false;
}

abbrev pub decreases-loop-younger : goal.decreases-loop-younger
decreases-loop-younger g l = 64 - l.from
