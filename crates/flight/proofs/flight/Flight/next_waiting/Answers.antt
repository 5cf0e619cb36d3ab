use Rattle.std.proofs.Common.{ap}
use Rattle.core_view.specs.Flight.{is_queued}
use Rattle.flight.specs.Marked.{is_waiting}
use Rattle.flight.proofs.flight.Flight.next_waiting.Goals as goal

pub returns-clause-next : goal.returns-clause-next
returns-clause-next g c = c.next_marked.ensures.next is_waiting (rw (← c.self.view_is) (c.waiting.ensures _ c.self.invariant.0.marked)) (λ e is. ap is_queued is)
