use Rattle.std.proofs.Common.{◌<◌, ap, sym, ◌∙◌, arith}
use Rattle.circular_buffer.specs.Buffer.{Buffer}
use Rattle.core_view.specs.declared.entry.Entry.{Entry}
use Rattle.flight.specs.Flights.{Flight}
use Rattle.flight.proofs.Kept.{flight-retired}
use Rattle.flight.proofs.Ahead.{guesses-retired}
use Rattle.flight.proofs.flight.Flight.retire.Goals as goal

pub invariant_of-self : goal.invariant_of-self
invariant_of-self g c =
    let some : 0 < c.self.inside.renamed = omega (arith, c.requires, ap (λ (f : Flight). f.renamed) c.self.view_is) in
    let left = ap (λ (b : Buffer Entry). b.items) c.retire.ensures.rest in
    (flight-retired _ _ _ _ _ _ _ c.self.invariant.0 some left c.retire-2.ensures, rw left (c.self.invariant.1 ∙ sym (guesses-retired c.self.inside.renamed c.self.inside.ring.items some)))
