use Rattle.reorder_buffer.proofs.Stamps.{growing_rest}
use Rattle.reorder_buffer.proofs.ring.Ring.retire.Goals as goal

pub invariant_of-self : goal.invariant_of-self
invariant_of-self g c = rw c.pop_front.ensures.items (growing_rest g.E.Stamped.stamp_of c.self.inside.buffer.items c.self.invariant)

pub returns-clause-oldest : goal.returns-clause-oldest
returns-clause-oldest g c = rw (← c.self.view_is) c.pop_front.ensures.value

pub returns-clause-rest : goal.returns-clause-rest
returns-clause-rest g c = rw (← c.self.view_is) c.pop_front.ensures.items

pub returns-clause-growing : goal.returns-clause-growing
returns-clause-growing g c = invariant_of-self g c
