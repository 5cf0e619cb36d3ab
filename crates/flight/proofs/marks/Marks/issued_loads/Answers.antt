use Rattle.std.proofs.Common.{ap, not}
use Rattle.std.specs.Prelude.{◌&&◌}
use Rattle.core_view.proofs.KindTests.{load-kind}
use Rattle.core_view.specs.Flight.{is_queued}
use Rattle.flight.specs.Marked.{is_waiting, is_issued_load}
use Rattle.flight.proofs.marks.Marks.issued_loads.Goals as goal

pub returns : goal.returns
returns c es is few = c.of_kind_but.ensures es is_waiting is_issued_load is few (c.waiting.ensures es is) (λ e. ap (λ b. b && not (is_queued e.stage)) (load-kind e.operation))
