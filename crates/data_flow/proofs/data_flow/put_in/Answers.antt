use Rattle.std.proofs.Common.{rules}
use Rattle.data_flow.proofs.data_flow.put_in.Goals as goal

pub enter-requires-clause-fresh : goal.enter-requires-clause-fresh
enter-requires-clause-fresh g c = c.requires.fresh

pub returns : goal.returns
returns g c = search rules
