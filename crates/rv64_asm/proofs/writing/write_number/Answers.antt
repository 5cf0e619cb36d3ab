use Rattle.std.proofs.Common.{rules}
use Rattle.rv64_asm.proofs.writing.write_number.Goals as goal

pub returns : goal.returns
returns g c = search rules
