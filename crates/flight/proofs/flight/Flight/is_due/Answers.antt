use Rattle.std.proofs.Common.{ap, ◌∙◌}
use Rattle.flight.specs.Flights.{Flight, entry_in, is_due}
use Rattle.flight.proofs.flight.Flight.is_due.Goals as goal

pub returns-then-place-renamed_count-clause-value : goal.returns-then-place-renamed_count-clause-value
returns-then-place-renamed_count-clause-value g c = c.is_due.ensures ∙ ap (is_due c.args.cycle) (c.at.ensures ∙ ap (λ (f : Flight). entry_in f.entries c.args.place) c.self.view_is)
