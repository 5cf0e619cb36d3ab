use Rattle.std.proofs.Common.{ap}
use Rattle.std.specs.Prelude.{◌&&◌}
use Rattle.core_view.proofs.KindTests.{store-kind}
use Rattle.core_view.specs.Flight.{is_done}
use Rattle.flight.specs.declared.marks.Marks.{Marks}
use Rattle.flight.specs.Marked.{has_completed, is_completed_store}
use Rattle.flight.proofs.marks.Marks.completed_stores.Goals as goal

pub returns : goal.returns
returns c es is = c.of_kind_in.ensures es has_completed is_completed_store is (ap (λ (m : Marks). m.done) is) (λ e. ap (λ b. b && is_done e.stage) (store-kind e.operation))
