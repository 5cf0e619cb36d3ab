use Rattle.std.proofs.Common.{rules}
use Rattle.branch_predict.proofs.constant.AlwaysGuess.guess.Goals as goal

pub returns-clause-answer : goal.returns-clause-answer
returns-clause-answer c = search rules
