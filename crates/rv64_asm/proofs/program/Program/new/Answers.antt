use Rattle.std.proofs.Common.{refl}
use Rattle.rv64_asm.proofs.program.Program.new.Goals as goal

pub returns-clause-words : goal.returns-clause-words
returns-clause-words g c = refl

pub returns-clause-bytes : goal.returns-clause-bytes
returns-clause-bytes g c = refl
