use Rattle.reorder_buffer.proofs.Stamps.{growing_pushed}
use Rattle.reorder_buffer.proofs.ring.Ring.push.Goals as goal

pub invariant_of-self : goal.invariant_of-self
invariant_of-self g c =
    let above = rw (← c.self.view_is) at c.requires in
    growing_pushed g.E.Stamped.stamp_of c.self.inside.buffer c.try_push_back.new.self c.args.entry c.try_push_back.result c.self.invariant above c.try_push_back.ensures.ok c.try_push_back.ensures.err

pub returns-clause-growing : goal.returns-clause-growing
returns-clause-growing g c = invariant_of-self g c
