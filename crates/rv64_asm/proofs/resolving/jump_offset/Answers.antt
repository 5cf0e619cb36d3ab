use Rattle.std.proofs.Common.{rules}
use Rattle.rv64_asm.proofs.resolving.jump_offset.Goals as goal

pub returns-in_err-offset : goal.returns-in_err-offset
returns-in_err-offset g c = search rules
