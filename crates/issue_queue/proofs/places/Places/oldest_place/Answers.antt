use Rattle.std.proofs.Common.{arith}
use Rattle.issue_queue.proofs.Masks.{none_of_context}
use Rattle.issue_queue.proofs.Oldest.{place_of_least}
use Rattle.issue_queue.proofs.places.Places.oldest_place.Goals as goal

pub returns-then-own-eq0-clause-none : goal.returns-then-own-eq0-clause-none
returns-then-own-eq0-clause-none c = none_of_context c.args.self.now c.args.context (omega arith) c.requires (rw c.index.ensures.value at c.if-own-eq0.true)

pub returns-clause-some : goal.returns-clause-some
returns-clause-some c =
    place_of_least c.args.context c.args.self.now.valid _ c.without-others.result c.oldest-oldest.result c.older-older.result c.args.self.now.slots (rw c.index.ensures.value (c.requires.contexts c.args.context (omega arith)))
    c.older-older.type_inv c.oldest-oldest.ensures.found c.oldest-oldest.ensures.least c.without-others.ensures c.older-older.ensures
