use Rattle.std.proofs.Common.{◌∙◌, ap, arith, rules}
use Rattle.std.proofs.lemmas.List.{length-map}
use Rattle.issue_queue.specs.Board.{order_of, slot}
use Rattle.issue_queue.specs.Views.{entered}
use Rattle.issue_queue.proofs.Arrived.{count-taken, lists_taken, kept_more, entries_more}
use Rattle.issue_queue.proofs.Kept.{kept_put, entries_put}
use Rattle.issue_queue.proofs.queue.Queue.enter.Goals as goal

pub push-place-requires : goal.push-place-requires
push-place-requires c =
    let q = c.self.inside in
    let room = rw (← c.self.view_is, length-map (order_of q.places q.arrivals) (slot q.places.slots)) at c.requires.room in
    omega (arith, c.self.invariant.bounded, room, count-taken q.arrivals q.places.valid (search rules))

pub invariant_of-self : goal.invariant_of-self
invariant_of-self c =
    let q = c.self.inside in
    let room = rw (← c.self.view_is, length-map (order_of q.places q.arrivals) (slot q.places.slots)) at c.requires.room in
    kept_more q.capacity q.places c.put.new.self q.arrivals c.push-place.new.self c.push-place.result c.put.ensures.valid c.push-place.ensures.behind c.push-place.ensures.bound c.self.invariant.taken
    (kept_put (entered c.args.reading) c.push-place.result q.capacity q.places c.put.new.self (order_of q.places q.arrivals) (lists_taken q.capacity q.places q.arrivals c.self.invariant)
    c.push-place.ensures.free room (rw (← c.self.view_is) at c.requires.fresh) c.put.ensures.slots c.put.ensures.valid c.put.ensures.step)

pub returns : goal.returns
returns c =
    let q = c.self.inside in
    rw (← c.self.view_is) (ap (λ es. record { capacity = q.capacity; entries = es })
    (entries_more q.places c.put.new.self q.arrivals c.push-place.new.self c.push-place.result c.put.ensures.valid c.push-place.ensures.behind
    ∙ entries_put (entered c.args.reading) c.push-place.result q.capacity q.places c.put.new.self.slots (order_of q.places q.arrivals) (lists_taken q.capacity q.places q.arrivals c.self.invariant)
    c.push-place.ensures.free c.put.ensures.slots))
