use Rattle.std.proofs.Common.{length, ap, ◌∙◌, subst}
use Rattle.core_view.specs.declared.entry.Entry.{Entry}
use Rattle.reorder_buffer.specs.Growing.{IsGrowing}
use Rattle.flight.specs.Flights.{Flight}
use Rattle.flight.proofs.flight.Flight.len.Goals as goal

pub returns-clause-value : goal.returns-clause-value
returns-clause-value g c = c.len.ensures.len ∙ ap (λ (f : Flight). length f.entries) c.self.view_is

pub returns-clause-growing : goal.returns-clause-growing
returns-clause-growing g c = subst (λ (f : Flight). IsGrowing (λ (e : Entry). e.stamp) f.entries) c.self.view_is c.len.ensures.growing
