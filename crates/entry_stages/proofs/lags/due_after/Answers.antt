use Rattle.std.proofs.Common.{ap}
use Rattle.data_tags.specs.declared.delay.Lag.{Lag}
use Rattle.entry_stages.specs.Due.{due_after}
use Rattle.entry_stages.proofs.lags.due_after.Goals as goal

pub returns : goal.returns
returns c = ap (λ n. let lag : Lag = record c.args.lag { cycles = n } in due_after c.args.cycle lag c.args.outcome) c.from.ensures
