use Rattle.std.proofs.Common.{arith}
use Rattle.core_back.proofs.retiring.context_in_turn.Goals as goal

pub returns-clause-turn : goal.returns-clause-turn
returns-clause-turn c = let number = rw c.unwrap.ensures at c.new.ensures.value in omega (arith, number, c.requires)
