use Rattle.std.proofs.Common.{rules}
use Rattle.paged_memory.proofs.page.Page.put_wide.Goals as goal

pub returns-in-Double : goal.returns-in-Double
returns-in-Double c = search rules
