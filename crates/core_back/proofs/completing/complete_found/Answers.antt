use Rattle.std.proofs.Common.{sym, subst}
use Rattle.flight.specs.Flights.{is_due, IsNext}
use Rattle.core_back.specs.Machine.{Machine, context_at}
use Rattle.core_back.specs.Completing.{IsTurn}
use Rattle.core_back.proofs.DuePlaces.{one_turn}
use Rattle.core_back.proofs.completing.complete_found.Goals as goal

pub returns : goal.returns
returns g c =
    subst (λ (m : Machine). IsTurn m c.complete-cut.new.self c.args.context 1 c.complete-cut.result) c.next_due.ensures.same
    (one_turn c.next_due.new.self c.complete-cut.new.self c.args.context c.in-Some.place c.complete-cut.result
    (subst (λ (m : Machine). IsNext (is_due m.view.cycle) (context_at m c.args.context).flight 0 c.in-Some.place) (sym c.next_due.ensures.same) c.in-Some.ensures.next)
    c.complete-cut.ensures.completed c.complete-cut.ensures.cut)
