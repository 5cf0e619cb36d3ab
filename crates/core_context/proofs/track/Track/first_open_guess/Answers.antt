use Rattle.std.proofs.Common.{◌≡◌, ℕ, ◌<◌, true, false, subst}
use Rattle.core_view.specs.Flight.{is_open_guess}
use Rattle.core_view.specs.View.{entry_at}
use Rattle.core_context.specs.Track.{Track}
use Rattle.core_context.proofs.track.Track.first_open_guess.Goals as goal

pub returns-clause-before : goal.returns-clause-before
returns-clause-before g c = subst (λ (t : Track). (i : ℕ) → i < c.first_open_guess.result → i < t.renamed → is_open_guess (entry_at t.context i) ≡ false) c.self.view_is c.first_open_guess.ensures.before

pub returns-clause-here : goal.returns-clause-here
returns-clause-here g c = subst (λ (t : Track). c.first_open_guess.result < t.renamed → is_open_guess (entry_at t.context c.first_open_guess.result) ≡ true) c.self.view_is c.first_open_guess.ensures.here
