use Rattle.std.proofs.Common.{◌∙◌, arith}
use Rattle.std.proofs.lemmas.List.Sums.{count_by-le-length}
use Rattle.core_view.specs.Flight.{is_queued}
use Rattle.core_back.specs.Machine.{context_at}
use Rattle.core_context.proofs.Laws.{waiting_number}
use Rattle.core_back.proofs.Renamable.{flight_most, idle_waiting}
use Rattle.core_back.proofs.machine.Machine.waiting_count.Goals as goal

pub returns-clause-value : goal.returns-clause-value
returns-clause-value g c =
    c.waiting_count.ensures ∙ waiting_number c.self.inside.flow c.args.context (context_at c.args.self.now c.args.context).flight (idle_waiting c.self.inside c.args.self.now c.self.view_is c.self.invariant c.requires c.args.context (omega arith))

pub returns-clause-bound : goal.returns-clause-bound
returns-clause-bound g c =
    omega (arith, returns-clause-value g c, count_by-le-length (λ e. is_queued e.stage) (context_at c.args.self.now c.args.context).flight, flight_most c.self.inside c.args.self.now c.args.context c.self.view_is c.self.invariant (omega arith))
