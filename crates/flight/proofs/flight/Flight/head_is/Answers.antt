use Rattle.std.proofs.Common.{◌<◌, take, ap, ◌∙◌}
use Rattle.core_view.specs.Kinds.{kind_index}
use Rattle.flight.specs.Flights.{Flight, entry_in}
use Rattle.flight.specs.Marked.{is_of_kind}
use Rattle.flight.proofs.Looks.{first-renamed}
use Rattle.flight.proofs.flight.Flight.head_is.Goals as goal

pub returns : goal.returns
returns g c =
    let es = c.self.inside.ring.items in
    let test = is_of_kind (kind_index c.args.kind) in
    let some : 0 < c.self.inside.renamed = rw (← c.self.view_is) at c.requires in
    first-renamed test es c.of_kind.result c.self.inside.renamed (c.of_kind.ensures (take c.self.inside.renamed es) c.self.invariant.0.marked) c.self.invariant.0.within some
    ∙ ap (λ (f : Flight). test (entry_in f.entries 0)) c.self.view_is
