use Rattle.std.proofs.Common.{rules}
use Rattle.rv64_asm.proofs.operands.base_and_number.Goals as goal

pub returns-in_err-number : goal.returns-in_err-number
returns-in_err-number c = search rules
