use Rattle.std.proofs.Common.{rules}
use Rattle.count_board.proofs.fault.BoardFaultDisplay.fmt.Goals as goal

pub returns-clause-writes : goal.returns-clause-writes
returns-clause-writes g c = search rules
