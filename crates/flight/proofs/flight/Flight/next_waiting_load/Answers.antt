use Rattle.std.proofs.Common.{take, ap, ◌&&◌}
use Rattle.core_view.specs.Operations.{is_load}
use Rattle.core_view.specs.Flight.{is_queued}
use Rattle.flight.specs.Marked.{is_waiting_load}
use Rattle.flight.proofs.Words.{few-taken}
use Rattle.flight.proofs.flight.Flight.next_waiting_load.Goals as goal

pub returns-clause-next : goal.returns-clause-next
returns-clause-next g c =
    let es = c.self.inside.ring.items in
    let r = c.self.inside.renamed in
    let h = c.self.invariant.0 in
    let word = c.waiting_loads.ensures (take r es) h.marked (few-taken es r h.within h.few) in
    c.next_marked.ensures.next is_waiting_load (rw (← c.self.view_is) word) (λ e is. ap (λ s. is_queued s && is_load e.operation) is)
