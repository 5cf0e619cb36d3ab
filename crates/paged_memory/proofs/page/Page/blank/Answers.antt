use Rattle.std.proofs.Common.{rules}
use Rattle.paged_memory.proofs.page.Page.blank.Goals as goal

pub returns-clause-address : goal.returns-clause-address
returns-clause-address c = search rules
