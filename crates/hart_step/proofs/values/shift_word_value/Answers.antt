use Rattle.std.proofs.Common.{rules}
use Rattle.hart_step.proofs.values.shift_word_value.Goals as goal

pub returns-in-RightArithmetic : goal.returns-in-RightArithmetic
returns-in-RightArithmetic c = search rules
