use Rattle.std.proofs.Common.{ap, not}
use Rattle.std.specs.Prelude.{◌&&◌}
use Rattle.core_view.proofs.KindTests.{guessed-kind}
use Rattle.core_view.specs.Flight.{is_done, is_open_guess}
use Rattle.flight.specs.declared.marks.Marks.{Marks}
use Rattle.flight.specs.Marked.{has_completed}
use Rattle.flight.proofs.marks.Marks.open_guesses.Goals as goal

pub returns : goal.returns
returns c es is few = c.of_kind_but.ensures es has_completed is_open_guess is few (ap (λ (m : Marks). m.done) is) (λ e. ap (λ b. b && not (is_done e.stage)) (guessed-kind e.operation))
