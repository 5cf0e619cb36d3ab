use Rattle.std.proofs.Common.{rules}
use Rattle.branch_predict.proofs.return_stack.ReturnStack.push.Goals as goal

pub returns : goal.returns
returns c = search rules
