use Rattle.std.proofs.Common.{rules}
use Rattle.rv64_asm.proofs.statement.number_of_width.Goals as goal

pub number_between-requires-in-Word : goal.number_between-requires-in-Word
number_between-requires-in-Word c = search rules
