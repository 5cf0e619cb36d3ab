use Rattle.origin_set.proofs.Starting.{starting}
use Rattle.origin_set.proofs.start_memory.Goals as goal

pub returns-in-None : goal.returns-in-None
returns-in-None g c = rw c.in-None.is c.new.ensures

pub returns-in-Some : goal.returns-in-Some
returns-in-Some g c = starting _ _ c.in-Some.program _ _ c.in-Some.is c.words.ensures c.bytes.ensures c.new-in-Some.ensures
