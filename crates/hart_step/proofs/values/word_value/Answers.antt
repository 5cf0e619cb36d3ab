use Rattle.std.proofs.Common.{rules}
use Rattle.hart_step.proofs.values.word_value.Goals as goal

pub returns-in-Sub : goal.returns-in-Sub
returns-in-Sub c = search rules
