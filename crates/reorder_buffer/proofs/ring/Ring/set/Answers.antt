use Rattle.std.proofs.Common.{get_or}
use Rattle.std.proofs.lemmas.Option.{slice_get-get_or}
use Rattle.reorder_buffer.proofs.Stamps.{growing-set}
use Rattle.reorder_buffer.proofs.ring.Ring.set.Goals as goal

pub invariant_of-self : goal.invariant_of-self
invariant_of-self g c =
    let place = rw (← c.self.view_is) at c.requires.place in
    let stamp = rw (← c.self.view_is) at c.requires.stamp in
    growing-set g.E.Stamped.stamp_of c.self.inside.buffer.items c.args.place c.args.entry c.self.invariant (stamp (get_or c.self.inside.buffer.items c.args.place c.args.entry) (slice_get-get_or c.self.inside.buffer.items c.args.place c.args.entry place))

pub returns-clause-growing : goal.returns-clause-growing
returns-clause-growing g c = invariant_of-self g c
