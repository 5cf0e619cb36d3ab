use Rattle.std.proofs.Common.{ap, refl}
use Rattle.issue_queue.specs.Board.{order_of}
use Rattle.issue_queue.specs.IssueQueue.{released}
use Rattle.issue_queue.proofs.Arrived.{lists_taken, kept_there, entries_there}
use Rattle.issue_queue.proofs.Kept.{entries_changed, kept_changed}
use Rattle.issue_queue.proofs.queue.Queue.release.Goals as goal

pub invariant_of-self : goal.invariant_of-self
invariant_of-self c =
    let q = c.self.inside in
    kept_there q.capacity q.places c.release.new.self q.arrivals c.self.invariant c.release.ensures.valid
    (kept_changed released (λ e. refl) (λ e. refl) q.capacity q.places c.release.new.self (order_of q.places q.arrivals) (lists_taken q.capacity q.places q.arrivals c.self.invariant)
    c.release.ensures.step c.release.ensures.valid (λ p _. c.release.ensures.slots p))

pub returns : goal.returns
returns c =
    let q = c.self.inside in
    rw (← c.self.view_is) (ap (λ es. record { capacity = q.capacity; entries = es })
    (entries_there q.places c.release.new.self q.arrivals _ c.release.ensures.valid
    (entries_changed released q.capacity q.places c.release.new.self.slots (order_of q.places q.arrivals) (lists_taken q.capacity q.places q.arrivals c.self.invariant) (λ p _. c.release.ensures.slots p))))
