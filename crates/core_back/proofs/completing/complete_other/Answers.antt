use Rattle.core_back.proofs.CompletedTurns.{not_last}
use Rattle.core_back.proofs.DuePlaces.{one_turn}
use Rattle.core_back.proofs.completing.complete_other.Goals as goal

pub returns-clause-turn : goal.returns-clause-turn
returns-clause-turn g c = one_turn c.args.machine.now c.complete-cut.new.self c.args.context c.args.place c.complete-cut.result c.requires.next c.complete-cut.ensures.completed c.complete-cut.ensures.cut

pub returns-clause-none : goal.returns-clause-none
returns-clause-none g c on = c.may_be_due.ensures (not_last c.may_be_due.result on)
