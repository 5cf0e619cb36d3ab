use Rattle.std.proofs.Common.{ap, ◌∙◌}
use Rattle.std.specs.Prelude.{◌&&◌}
use Rattle.core_view.proofs.KindTests.{load-kind}
use Rattle.core_view.specs.Flight.{is_queued}
use Rattle.flight.specs.Marked.{is_of_kind, is_waiting, is_waiting_load}
use Rattle.flight.proofs.KindWords.{and-turned}
use Rattle.flight.proofs.marks.Marks.waiting_loads.Goals as goal

pub returns : goal.returns
returns c es is few = c.of_kind_in.ensures es is_waiting is_waiting_load is (c.waiting.ensures es is) (λ e. and-turned (is_of_kind 3 e) (is_queued e.stage) ∙ ap (λ b. is_queued e.stage && b) (load-kind e.operation))
