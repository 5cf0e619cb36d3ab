use Rattle.std.proofs.Common.{◌∙◌, arith}
use Rattle.std.proofs.lemmas.List.{length-map}
use Rattle.issue_queue.specs.Board.{order_of, slot}
use Rattle.issue_queue.proofs.Arrived.{count-entries}
use Rattle.issue_queue.proofs.queue.Queue.len.Goals as goal

pub returns-clause-value : goal.returns-clause-value
returns-clause-value c = rw (← c.self.view_is) (c.len.ensures.value ∙ count-entries c.self.inside.capacity c.self.inside.places c.self.inside.arrivals c.len.ensures.fits c.self.invariant)

pub returns-clause-fits : goal.returns-clause-fits
returns-clause-fits c =
    rw (← c.self.view_is) (omega (
      arith,
      c.len.ensures.value,
      count-entries c.self.inside.capacity c.self.inside.places c.self.inside.arrivals c.len.ensures.fits c.self.invariant,
      length-map (order_of c.self.inside.places c.self.inside.arrivals) (slot c.self.inside.places.slots),
      c.self.invariant.within,
    ))
