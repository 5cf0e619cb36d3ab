use Rattle.issue_queue.specs.declared.places.Places.{Places}
use Rattle.issue_queue.specs.Board.{order_of}
use Rattle.issue_queue.specs.Entry.{Entry}
use Rattle.std.proofs.Common.{ℕ}
use Rattle.issue_queue.specs.Views.{view_of}
use Rattle.issue_queue.proofs.Arrived.{lists_taken, kept_less, entries_less}
use Rattle.issue_queue.proofs.Chosen.{first_place, fewer_taken, kept_chosen, best_selected, chosen_gone}
use Rattle.issue_queue.proofs.queue.Queue.select_into.Goals as goal

pub free_ready-requires-clause-ready : goal.free_ready-requires-clause-ready
free_ready-requires-clause-ready g c =
    let q = c.self.inside in
    λ p t. (first_place (λ e. g.O.Order.key_of c.args.order.now (view_of e)) c.args.width q.capacity q.places (order_of q.places q.arrivals) c.ready-ready.result c.list_first-first.result c.list_first-first.new.names.items
    (lists_taken q.capacity q.places q.arrivals c.self.invariant) c.ready-ready.ensures c.list_first-first.ensures p t).1

pub invariant_of-self : goal.invariant_of-self
invariant_of-self g c =
    let key : Entry → ℕ = λ e. g.O.Order.key_of c.args.order.now (view_of e) in
    let q = c.self.inside in
    let d : Places = c.free_ready.new.self in
    kept_less q.capacity q.places d q.arrivals c.self.invariant
    (fewer_taken key c.args.width q.capacity q.places (order_of q.places q.arrivals) c.ready-ready.result c.list_first-first.result c.list_first-first.new.names.items (lists_taken q.capacity q.places q.arrivals c.self.invariant)
    c.ready-ready.ensures c.list_first-first.ensures d c.free_ready.ensures.slots c.free_ready.ensures.valid)
    (kept_chosen key c.args.width q.capacity q.places (order_of q.places q.arrivals) c.ready-ready.result c.list_first-first.result c.list_first-first.new.names.items (lists_taken q.capacity q.places q.arrivals c.self.invariant)
    c.ready-ready.ensures c.list_first-first.ensures d c.free_ready.ensures.slots c.free_ready.ensures.valid c.free_ready.ensures.step)

pub returns-clause-selected : goal.returns-clause-selected
returns-clause-selected g c =
    let key : Entry → ℕ = λ e. g.O.Order.key_of c.args.order.now (view_of e) in
    let q = c.self.inside in
    let d : Places = c.free_ready.new.self in
    rw (← c.self.view_is) (rw (
      entries_less q.places d q.arrivals
          (fewer_taken key c.args.width q.capacity q.places (order_of q.places q.arrivals) c.ready-ready.result c.list_first-first.result c.list_first-first.new.names.items (lists_taken q.capacity q.places q.arrivals c.self.invariant)
          c.ready-ready.ensures c.list_first-first.ensures d c.free_ready.ensures.slots c.free_ready.ensures.valid),
      chosen_gone key c.args.width q.capacity q.places (order_of q.places q.arrivals) c.ready-ready.result c.list_first-first.result c.list_first-first.new.names.items (lists_taken q.capacity q.places q.arrivals c.self.invariant)
          c.ready-ready.ensures c.list_first-first.ensures d c.free_ready.ensures.slots c.free_ready.ensures.valid,
    )
    (best_selected key c.args.width q.capacity q.places (order_of q.places q.arrivals) c.ready-ready.result c.list_first-first.result c.list_first-first.new.names.items (lists_taken q.capacity q.places q.arrivals c.self.invariant)
    c.ready-ready.ensures c.list_first-first.ensures))
