use Rattle.std.proofs.Common.{◌+◌, ◌%◌, ap}
use Rattle.flight.proofs.flight.slot_of.Goals as goal

pub returns : goal.returns
returns c = ap (λ n. (n + c.args.place) % 64) c.from.ensures
