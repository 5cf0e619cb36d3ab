use Rattle.std.proofs.Common.{rules}
use Rattle.entry_stages.proofs.lags.lag_of.Goals as goal

pub returns : goal.returns
returns g c = record {
  stated = record { stopping = search rules; asked = λ other. c.delay.ensures.answer };
  timed = record { stopping = search rules; going = λ other. (c.delay.ensures.value, c.delay.ensures.state) };
}
