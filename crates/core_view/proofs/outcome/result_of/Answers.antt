use Rattle.std.proofs.Common.{rules}
use Rattle.core_view.proofs.outcome.result_of.Goals as goal

pub returns : goal.returns
returns c = search rules
