use Rattle.std.proofs.Common.{rules}
use Rattle.paged_memory.proofs.page.Page.put_narrow.Goals as goal

pub returns-in_default : goal.returns-in_default
returns-in_default c = search rules
