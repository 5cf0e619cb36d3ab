use Rattle.std.proofs.Common.{◌∙◌, arith}
use Rattle.std.proofs.lemmas.List.Sums.{count_by-le-length}
use Rattle.std.specs.Prelude.{◌&&◌}
use Rattle.core_view.specs.Operations.{is_guessed}
use Rattle.core_view.specs.Flight.{is_queued}
use Rattle.core_back.specs.Machine.{context_at}
use Rattle.core_context.proofs.Laws.{waiting_guesses}
use Rattle.core_back.proofs.Renamable.{flight_most, idle_waiting}
use Rattle.core_back.proofs.machine.Machine.waiting_guessed.Goals as goal

pub returns-clause-value : goal.returns-clause-value
returns-clause-value g c =
    c.guessed_count.ensures ∙ waiting_guesses c.self.inside.flow c.args.context (context_at c.args.self.now c.args.context).flight (idle_waiting c.self.inside c.args.self.now c.self.view_is c.self.invariant c.requires c.args.context (omega arith))

pub returns-clause-bound : goal.returns-clause-bound
returns-clause-bound g c =
    omega (arith, returns-clause-value g c, count_by-le-length (λ e. is_queued e.stage && is_guessed e.operation) (context_at c.args.self.now c.args.context).flight, flight_most c.self.inside c.args.self.now c.args.context c.self.view_is c.self.invariant (omega arith))
