use Rattle.std.proofs.Common.{rules}
use Rattle.paged_memory.proofs.place.find_data.Goals as goal

pub returns-then-from_data-total-clause-found : goal.returns-then-from_data-total-clause-found
returns-then-from_data-total-clause-found c = search rules

pub returns-else-from_data-total-clause-missing : goal.returns-else-from_data-total-clause-missing
returns-else-from_data-total-clause-missing c = search rules
