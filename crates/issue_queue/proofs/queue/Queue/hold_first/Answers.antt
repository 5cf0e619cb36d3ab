use Rattle.std.proofs.Common.{ℕ, true, refl}
use Rattle.issue_queue.specs.Board.{order_of}
use Rattle.issue_queue.specs.Entry.{Entry}
use Rattle.issue_queue.specs.IsSelected.{is_among}
use Rattle.issue_queue.specs.IssueQueue.{hold_among}
use Rattle.issue_queue.specs.Views.{view_of}
use Rattle.issue_queue.proofs.Arrived.{lists_taken, kept_there, entries_there}
use Rattle.issue_queue.proofs.Chosen.{first_place, held_among, best_selected}
use Rattle.issue_queue.proofs.Kept.{entries_changed, kept_changed}
use Rattle.issue_queue.proofs.Named.{cond_context, cond_stamp}
use Rattle.issue_queue.proofs.queue.Queue.hold_first.Goals as goal

pub hold_all-requires-clause-taken : goal.hold_all-requires-clause-taken
hold_all-requires-clause-taken g c =
    let q = c.self.inside in
    λ p t. (first_place (λ e. g.O.Order.key_of c.args.order.now (view_of e)) c.args.width q.capacity q.places (order_of q.places q.arrivals) c.ready-ready.result c.list_first-first.result c.list_first-first.new.names.items
    (lists_taken q.capacity q.places q.arrivals c.self.invariant) c.ready-ready.ensures c.list_first-first.ensures p t).0

pub invariant_of-self : goal.invariant_of-self
invariant_of-self g c =
    let key : Entry → ℕ = λ e. g.O.Order.key_of c.args.order.now (view_of e) in
    let q = c.self.inside in
    kept_there q.capacity q.places c.hold_all.new.self q.arrivals c.self.invariant c.hold_all.ensures.valid
    (kept_changed (hold_among c.list_first-first.new.names.items) (λ e. cond_context (is_among c.list_first-first.new.names.items e) (record e { held = true }) e refl) (λ e. cond_stamp (is_among c.list_first-first.new.names.items e) (record e { held = true }) e refl)
    q.capacity q.places c.hold_all.new.self (order_of q.places q.arrivals) (lists_taken q.capacity q.places q.arrivals c.self.invariant) c.hold_all.ensures.step c.hold_all.ensures.valid
    (held_among key c.args.width q.capacity q.places (order_of q.places q.arrivals) c.ready-ready.result c.list_first-first.result c.list_first-first.new.names.items (lists_taken q.capacity q.places q.arrivals c.self.invariant)
    c.ready-ready.ensures c.list_first-first.ensures c.hold_all.new.self.slots c.hold_all.ensures.slots))

pub returns-clause-held : goal.returns-clause-held
returns-clause-held g c =
    let key : Entry → ℕ = λ e. g.O.Order.key_of c.args.order.now (view_of e) in
    let q = c.self.inside in
    rw (← c.self.view_is)
    (entries_there q.places c.hold_all.new.self q.arrivals _ c.hold_all.ensures.valid
    (entries_changed (hold_among c.list_first-first.new.names.items) q.capacity q.places c.hold_all.new.self.slots (order_of q.places q.arrivals) (lists_taken q.capacity q.places q.arrivals c.self.invariant)
    (held_among key c.args.width q.capacity q.places (order_of q.places q.arrivals) c.ready-ready.result c.list_first-first.result c.list_first-first.new.names.items (lists_taken q.capacity q.places q.arrivals c.self.invariant)
    c.ready-ready.ensures c.list_first-first.ensures c.hold_all.new.self.slots c.hold_all.ensures.slots)))

pub returns-clause-selected : goal.returns-clause-selected
returns-clause-selected g c =
    let q = c.self.inside in
    rw (← c.self.view_is)
    (best_selected (λ e. g.O.Order.key_of c.args.order.now (view_of e)) c.args.width q.capacity q.places (order_of q.places q.arrivals) c.ready-ready.result c.list_first-first.result c.list_first-first.new.names.items
    (lists_taken q.capacity q.places q.arrivals c.self.invariant) c.ready-ready.ensures c.list_first-first.ensures)
