use Rattle.origin_set.proofs.Fitting.{fitting}
use Rattle.origin_set.proofs.is_within_limits.Goals as goal

pub returns-in-Some : goal.returns-in-Some
returns-in-Some g c = fitting _ c.in-Some.program _ _ _ c.in-Some.is c.words.ensures c.bytes.ensures c.has_room.ensures
