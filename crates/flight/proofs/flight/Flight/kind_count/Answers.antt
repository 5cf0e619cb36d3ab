use Rattle.std.proofs.Common.{take, map, count_by, ap, ◌∙◌}
use Rattle.core_view.specs.Kinds.{kind_index}
use Rattle.flight.specs.Flights.{Flight}
use Rattle.flight.specs.Marked.{is_of_kind}
use Rattle.flight.proofs.Words.{count-tests}
use Rattle.flight.proofs.flight.Flight.kind_count.Goals as goal

pub returns : goal.returns
returns g c =
    let es = take c.self.inside.renamed c.self.inside.ring.items in
    let test = is_of_kind (kind_index c.args.kind) in
    record {
      value = c.count.ensures (map test es) (c.of_kind.ensures es c.self.invariant.0.marked) ∙ count-tests test es
          ∙ ap (λ (f : Flight). count_by test (take f.renamed f.entries)) c.self.view_is;
    }
