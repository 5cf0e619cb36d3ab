use Rattle.std.proofs.Common.{take, ap, ◌∙◌, not, nat_eq}
use Rattle.std.specs.List.{list_any}
use Rattle.core_view.specs.Flight.{is_open_guess}
use Rattle.flight.specs.Flights.{Flight}
use Rattle.flight.proofs.Words.{none-set, few-taken}
use Rattle.flight.proofs.flight.Flight.has_open_guess.Goals as goal

pub returns : goal.returns
returns g c =
    let es = take c.self.inside.renamed c.self.inside.ring.items in
    let few = few-taken c.self.inside.ring.items c.self.inside.renamed c.self.invariant.0.within c.self.invariant.0.few in
    ap (λ w. not (nat_eq w 0)) (c.open_guesses.ensures es c.self.invariant.0.marked few) ∙ none-set is_open_guess es
    ∙ ap (λ (f : Flight). list_any is_open_guess (take f.renamed f.entries)) c.self.view_is
