use Rattle.bit_vector.proofs.Bits.{from-none, from-place, from-some}
use Rattle.bit_vector.proofs.places.has_from.Goals as goal

pub returns-clause-none : goal.returns-clause-none
returns-clause-none c = from-none c.args.word c.args.place c.args.other c.ranges.word.fits c.requires

pub returns-clause-place : goal.returns-clause-place
returns-clause-place c = from-place c.args.word c.args.place c.args.other c.ranges.word.fits c.requires

pub returns-clause-some : goal.returns-clause-some
returns-clause-some c = from-some c.args.word c.args.place c.args.other c.ranges.word.fits c.requires
