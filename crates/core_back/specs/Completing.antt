-- What a turn of the part in which entries complete makes of a machine.
use Rattle.std.specs.Prelude.{◌≡◌, ℕ, ◌+◌, ◌≤◌, length}
use Rattle.core_view.specs.Events.{with_flight, completed_at}
use Rattle.flight.specs.Flights.{is_due, NoneFrom}
use Rattle.core_back.specs.Machine.{Machine, context_at, with_context}
use Rattle.core_back.specs.Coming.{number_of}

-- so many entries of a context completed, one at most, and squashed so many; none is due where none did
pub record IsTurn (m n : Machine) (c completed cut : ℕ) : Type 0 where
  pub others : n ≡ with_context m c (with_flight (context_at m c) (context_at n c).flight)
  pub goes_on : completed_at m.view.cycle (context_at n c).flight ≡ completed_at m.view.cycle (context_at m c).flight
  pub fewer : cut + length (context_at n c).flight ≡ length (context_at m c).flight
  pub counted : completed + number_of m.view.cycle (context_at n c) ≡ number_of m.view.cycle (context_at m c)
  pub one : completed ≤ 1
  pub last : completed ≡ 0 → NoneFrom (is_due m.view.cycle) (context_at n c).flight 0
