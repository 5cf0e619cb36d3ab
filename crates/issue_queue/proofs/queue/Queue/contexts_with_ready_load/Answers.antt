use Rattle.std.proofs.Common.{◌&&◌}
use Rattle.issue_queue.specs.Board.{order_of}
use Rattle.issue_queue.specs.Entry.{is_ready}
use Rattle.issue_queue.proofs.Arrived.{lists_taken}
use Rattle.issue_queue.proofs.Gathered.{context_told}
use Rattle.issue_queue.proofs.queue.Queue.contexts_with_ready_load.Goals as goal

pub returns-clause-value : goal.returns-clause-value
returns-clause-value c =
    rw (← c.self.view_is) (context_told (λ e. is_ready e && e.load) c.ready_loads.result c.contexts_of.result c.self.inside.capacity c.self.inside.places (order_of c.self.inside.places c.self.inside.arrivals) (lists_taken c.self.inside.capacity c.self.inside.places c.self.inside.arrivals c.self.invariant)
    c.ready_loads.ensures c.contexts_of.ensures.found c.contexts_of.ensures.all)
