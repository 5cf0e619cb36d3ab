use Rattle.std.proofs.Common.{◌≡◌, ℕ, ◌-◌, ◌<◌, ◌≤◌, false}
use Rattle.flight.specs.Flights.{entry_in, is_due}
use Rattle.flight.proofs.flight.Flight.next_due.Given as goal

abbrev pub invariant-loop-place : goal.invariant-loop-place
invariant-loop-place g l = record { same : l.self ≡ l.fn.self; after : l.from ≤ l.place; within : l.place ≤ 64; none : (i : ℕ) → l.from ≤ i → i < l.place → is_due l.cycle (entry_in l.fn.self.entries i) ≡ false }

abbrev pub decreases-loop-place : goal.decreases-loop-place
decreases-loop-place g l = 64 - l.place
