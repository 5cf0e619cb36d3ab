use Rattle.std.proofs.Common.{◌-◌, arith, sym, subst}
use Rattle.flight.specs.Flights.{is_due, IsNext}
use Rattle.core_back.specs.Machine.{Machine, context_at}
use Rattle.core_back.specs.Completing.{IsTurn}
use Rattle.core_back.proofs.CompletedTurns.{counted_turn}
use Rattle.core_back.proofs.DuePlaces.{one_turn}
use Rattle.core_back.proofs.completing.complete_next.Goals as goal

pub complete_other-turn-requires-clause-next : goal.complete_other-turn-requires-clause-next
complete_other-turn-requires-clause-next g c =
    subst (λ (m : Machine). IsNext (is_due m.view.cycle) (context_at m c.args.context).flight 0 c.in-Some.place) (sym (c.complete_plain.ensures.none c.in_default-complete_plain.is)) c.in-Some.ensures

pub returns-in_default-complete_plain-clause-turn : goal.returns-in_default-complete_plain-clause-turn
returns-in_default-complete_plain-clause-turn g c =
    subst (λ (m : Machine). IsTurn m c.complete_other-turn.new.machine c.args.context c.counted-in_default-complete_plain.result.completed (c.counted-in_default-complete_plain.result.cut - c.args.cut)) (c.complete_plain.ensures.none c.in_default-complete_plain.is)
    (counted_turn c.complete_plain.new.self c.complete_other-turn.new.machine c.args.context c.args.cut c.complete_other-turn.result c.counted-in_default-complete_plain.result c.counted-in_default-complete_plain.ensures c.complete_other-turn.ensures.turn)

pub returns-in_default-clause-turn : goal.returns-in_default-clause-turn
returns-in_default-clause-turn g c =
    counted_turn c.args.machine.now c.search_turn-turn.new.machine c.args.context c.args.cut c.search_turn-turn.result c.counted.result c.counted.ensures c.search_turn-turn.ensures.turn

pub returns-clause-turn : goal.returns-clause-turn
returns-clause-turn g c = one_turn c.args.machine.now c.complete_plain.new.self c.args.context c.in-Some.place (c.args.cut - c.args.cut) c.in-Some.ensures c.in-Some-complete_plain.ensures.completed (omega (arith, c.in-Some-complete_plain.ensures.kept))
