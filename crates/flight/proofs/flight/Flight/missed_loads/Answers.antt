use Rattle.std.proofs.Common.{take, count_by, ap, ◌∙◌}
use Rattle.core_view.specs.Flight.{is_missed_load}
use Rattle.flight.specs.Flights.{Flight}
use Rattle.flight.proofs.Words.{few-taken}
use Rattle.flight.proofs.flight.Flight.missed_loads.Goals as goal

pub returns : goal.returns
returns g c =
    let es = c.self.inside.ring.items in
    let r = c.self.inside.renamed in
    let h = c.self.invariant.0 in
    c.missed_count.ensures (take r es) h.marked (few-taken es r h.within h.few) ∙ ap (λ (f : Flight). count_by is_missed_load (take f.renamed f.entries)) c.self.view_is
