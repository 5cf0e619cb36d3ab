use Rattle.std.proofs.Common.{take}
use Rattle.flight.specs.Marked.{is_completed_store}
use Rattle.flight.proofs.Looks.{last-renamed}
use Rattle.flight.proofs.flight.Flight.last_completed_store.Goals as goal

pub returns : goal.returns
returns g c =
    let h = c.self.invariant.0 in
    let word = c.completed_stores.ensures (take c.self.inside.renamed c.self.inside.ring.items) h.marked in
    rw (← c.self.view_is) (last-renamed is_completed_store _ _ word h.within c.args.before c.last.result c.last.ensures.below c.last.ensures.set c.last.ensures.clear c.last.ensures.none)
