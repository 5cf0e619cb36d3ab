use Rattle.std.proofs.Common.{ap, subst, ◌∙◌}
use Rattle.core_view.specs.View.{View}
use Rattle.core_back.specs.Machine.{Machine}
use Rattle.core_back.specs.Selected.{IsChosen}
use Rattle.core_back.proofs.machine.Machine.select_anew.Goals as goal

pub select_clear-requires-clause-idle : goal.select_clear-requires-clause-idle
select_clear-requires-clause-idle g c = ap (λ (m : Machine). m.names) c.give_back.ensures

pub returns-clause-selected : goal.returns-clause-selected
returns-clause-selected g c = c.select_clear.ensures.selected ∙ ap (λ (m : Machine). let n : Machine = record m { names = c.select_clear.new.self.names } in n) c.give_back.ensures

pub returns-clause-choice : goal.returns-clause-choice
returns-clause-choice g c = subst (λ (v : View). IsChosen (g.O.Order.key_of c.args.order.now) c.args.width v c.select_clear.new.self.names) (ap (λ (m : Machine). m.view) c.give_back.ensures) c.select_clear.ensures.choice

pub returns-clause-most : goal.returns-clause-most
returns-clause-most g c = c.select_clear.ensures.most
