use Rattle.std.proofs.Common.{ap, ◌∙◌}
use Rattle.flight.specs.declared.marks.Marks.{Marks}
use Rattle.core_view.specs.Flight.{is_done}
use Rattle.flight.specs.Marked.{has_completed}
use Rattle.flight.specs.Flights.{Flight, entry_in}
use Rattle.flight.proofs.Looks.{second-bit}
use Rattle.flight.proofs.flight.Flight.is_next_done.Goals as goal

pub returns : goal.returns
returns g c = second-bit has_completed c.self.inside.ring.items c.self.inside.marks.done c.self.inside.renamed (ap (λ (m : Marks). m.done) c.self.invariant.0.marked) c.self.invariant.0.within c.self.invariant.0.ahead (λ e is. ap is_done is)
    ∙ ap (λ (f : Flight). is_done (entry_in f.entries 1).stage) c.self.view_is
