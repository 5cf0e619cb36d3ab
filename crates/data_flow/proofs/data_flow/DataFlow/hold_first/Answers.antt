use Rattle.data_flow.proofs.Marks.{held_among}
use Rattle.data_flow.proofs.Selects.{listed_first}
use Rattle.data_flow.proofs.data_flow.DataFlow.hold_first.Goals as goal

pub invariant_of-self : goal.invariant_of-self
invariant_of-self g c = (held_among c.self.inside c.args.self.now c.hold_first.new.self c.hold_first.new.names.items c.self.view_is c.self.invariant c.hold_first.ensures.capacity c.hold_first.ensures.held).wired

pub returns-clause-flow : goal.returns-clause-flow
returns-clause-flow g c = (held_among c.self.inside c.args.self.now c.hold_first.new.self c.hold_first.new.names.items c.self.view_is c.self.invariant c.hold_first.ensures.capacity c.hold_first.ensures.held).shown

pub returns-clause-selected : goal.returns-clause-selected
returns-clause-selected g c =
    listed_first c.self.inside c.args.self.now (g.O.Order.key_of c.args.order.now) c.args.width c.hold_first.new.names.items c.self.view_is c.self.invariant c.hold_first.ensures.selected
