use Rattle.std.proofs.Common.{◌-◌, length}
use Rattle.reorder_buffer.proofs.Stamps.{growing_front}
use Rattle.reorder_buffer.proofs.ring.Ring.pop_last.Goals as goal

pub invariant_of-self : goal.invariant_of-self
invariant_of-self g c =
    let xs = c.self.inside.buffer.items in
    rw c.pop_back.ensures.items (growing_front g.E.Stamped.stamp_of xs (length xs - 1) c.self.invariant)

pub returns-clause-growing : goal.returns-clause-growing
returns-clause-growing g c = invariant_of-self g c
