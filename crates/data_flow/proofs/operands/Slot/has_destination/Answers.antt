use Rattle.std.proofs.Common.{ap, not}
use Rattle.std.specs.Prelude.{◌==◌}
use Rattle.data_flow.proofs.operands.Slot.has_destination.Goals as goal

pub returns : goal.returns
returns c = ap (λ n. not (n == 0)) c.index.ensures.same
