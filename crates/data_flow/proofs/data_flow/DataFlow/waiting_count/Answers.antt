use Rattle.std.proofs.Common.{ap, ◌∙◌}
use Rattle.std.specs.Prelude.{count_by, ◌==◌}
use Rattle.data_flow.specs.Flow.{Flow, Waiter}
use Rattle.data_flow.proofs.Counts.{count_waiters}
use Rattle.data_flow.proofs.data_flow.DataFlow.waiting_count.Goals as goal

pub returns : goal.returns
returns g c =
    c.count.ensures ∙ count_waiters (λ (w : Waiter). w.context == c.args.context) c.self.inside.queue.entries
    ∙ ap (λ (f : Flow). count_by (λ (w : Waiter). w.context == c.args.context) f.waiters) c.self.view_is
