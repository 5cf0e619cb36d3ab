use Rattle.std.proofs.Common.{rules}
use Rattle.rv64_asm.proofs.place.next_place.Goals as goal

pub returns-else-is_twice-clause-next : goal.returns-else-is_twice-clause-next
returns-else-is_twice-clause-next g c = search rules

pub returns-else-is_twice-clause-new : goal.returns-else-is_twice-clause-new
returns-else-is_twice-clause-new g c = search rules
