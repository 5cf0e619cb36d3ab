use Rattle.std.proofs.Common.{◌≡◌, ◌+◌}
use Rattle.flight.specs.Flights.{guesses_ahead}
use Rattle.flight.proofs.flight.guesses_from.Given as goal

abbrev pub invariant-loop-place : goal.invariant-loop-place
invariant-loop-place g l = l.count + guesses_ahead l.place l.ring.items ≡ guesses_ahead l.from l.ring.items
