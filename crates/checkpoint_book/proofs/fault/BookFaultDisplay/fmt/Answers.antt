use Rattle.std.proofs.Common.{rules}
use Rattle.checkpoint_book.proofs.fault.BookFaultDisplay.fmt.Goals as goal

pub returns-in-ForeignOrigin-clause-writes : goal.returns-in-ForeignOrigin-clause-writes
returns-in-ForeignOrigin-clause-writes g c = search rules

pub returns-in-OutOfMemory-clause-writes : goal.returns-in-OutOfMemory-clause-writes
returns-in-OutOfMemory-clause-writes g c = search rules
