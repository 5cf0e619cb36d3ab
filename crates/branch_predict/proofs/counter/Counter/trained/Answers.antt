use Rattle.std.proofs.Common.{rules}
use Rattle.branch_predict.proofs.counter.Counter.trained.Goals as goal

pub returns : goal.returns
returns c = search rules
