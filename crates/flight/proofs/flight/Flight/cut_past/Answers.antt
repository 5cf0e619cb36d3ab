use Rattle.std.proofs.Common.{◌≡◌, length, ap, ◌∙◌}
use Rattle.std.specs.Prelude.{min}
use Rattle.circular_buffer.specs.Buffer.{Buffer}
use Rattle.core_view.specs.declared.entry.Entry.{Entry}
use Rattle.flight.specs.Flights.{Flight, cut_at}
use Rattle.flight.proofs.Kept.{flight_of, flight-cut}
use Rattle.flight.proofs.flight.Flight.cut_past.Goals as goal

pub invariant_of-self : goal.invariant_of-self
invariant_of-self g c =
    let fewer : c.min-self-inside.result ≡ min c.self.inside.renamed (length c.cut_in.new.ring.items) = c.min-self-inside.ensures ∙ ap (min c.self.inside.renamed) c.len.ensures.len in
    (flight-cut c.self.inside.ring.items c.cut_in.new.ring.items c.self.inside.renamed c.min-self-inside.result c.self.inside.base c.self.inside.marks c.keep.new.self c.self.inside.hints c.self.invariant.0 c.cut_in.ensures.front fewer c.keep.ensures, c.guesses_from-self-inside.ensures)

pub returns : goal.returns
returns g c =
    let fewer : c.min-self-inside.result ≡ min c.self.inside.renamed (length c.cut_in.new.ring.items) = c.min-self-inside.ensures ∙ ap (min c.self.inside.renamed) c.len.ensures.len in
    ap (λ n. flight_of c.cut_in.new.ring.items n c.cut_in.new.ring.capacity) fewer
    ∙ ap (λ (b : Buffer Entry). flight_of b.items (min c.self.inside.renamed (length b.items)) b.capacity) c.cut_in.ensures.below
    ∙ ap (λ (f : Flight). cut_at f c.args.stamp) c.self.view_is
