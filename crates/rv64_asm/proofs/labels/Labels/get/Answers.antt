use Rattle.std.proofs.Common.{rules}
use Rattle.rv64_asm.proofs.labels.Labels.get.Goals as goal

pub returns : goal.returns
returns g c = search rules
