use Rattle.reorder_buffer.proofs.Stamps.{cut_growing, cut_items, cut_front}
use Rattle.reorder_buffer.proofs.ring.Ring.cut_from.Goals as goal

pub invariant_of-self : goal.invariant_of-self
invariant_of-self g c = cut_growing g.E.Stamped.stamp_of c.self.inside.buffer c.truncate_back.new.self c.count_below-keep.result c.truncate_back.ensures c.self.invariant

pub returns-clause-below : goal.returns-clause-below
returns-clause-below g c =
    let below = rw (← c.self.view_is) at c.count_below-keep.ensures.below in
    rw (← c.self.view_is) (cut_items c.self.inside.buffer c.truncate_back.new.self c.count_below-keep.result _ c.truncate_back.ensures below)

pub returns-clause-front : goal.returns-clause-front
returns-clause-front g c =
    let within = rw (← c.self.view_is) at c.count_below-keep.ensures.within in
    rw (← c.self.view_is) (cut_front c.self.inside.buffer c.truncate_back.new.self c.count_below-keep.result within c.truncate_back.ensures)

pub returns-clause-growing : goal.returns-clause-growing
returns-clause-growing g c = invariant_of-self g c
