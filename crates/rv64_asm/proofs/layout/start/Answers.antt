use Rattle.std.proofs.Common.{refl, arith}
use Rattle.rv64_asm.proofs.layout.start.Goals as goal

pub returns-clause-same : goal.returns-clause-same
returns-clause-same c = refl

pub returns-clause-within : goal.returns-clause-within
returns-clause-within c = (omega arith, omega arith)
