use Rattle.checkpoint.proofs.MarkLemmas.{further_left, further_right, tested, not_tested}
use Rattle.checkpoint.proofs.MarkJoin.join.Goals as goal

pub returns-then-is_behind : goal.returns-then-is_behind
returns-then-is_behind g c = further_right c.args.self c.args.other c.requires (tested c.if-is_behind.ensures)

pub returns-else-is_behind : goal.returns-else-is_behind
returns-else-is_behind g c = further_left c.args.self c.args.other (not_tested c.if-is_behind.ensures)
