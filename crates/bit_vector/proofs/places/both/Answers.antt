use Rattle.bit_vector.proofs.Bits.{both-set, both-first, both-second}
use Rattle.bit_vector.proofs.places.both.Goals as goal

pub returns-clause-set : goal.returns-clause-set
returns-clause-set c i p q = both-set c.args.word c.args.other i p q

pub returns-clause-first : goal.returns-clause-first
returns-clause-first c i h = both-first c.args.word c.args.other i h

pub returns-clause-second : goal.returns-clause-second
returns-clause-second c i h = both-second c.args.word c.args.other i h
