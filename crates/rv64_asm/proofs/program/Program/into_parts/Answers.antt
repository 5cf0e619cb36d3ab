use Rattle.std.proofs.Common.{rules}
use Rattle.rv64_asm.proofs.program.Program.into_parts.Goals as goal

pub returns-clause-words : goal.returns-clause-words
returns-clause-words g c = search rules
