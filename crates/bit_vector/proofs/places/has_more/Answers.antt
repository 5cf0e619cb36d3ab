use Rattle.bit_vector.proofs.Bits.{more-none, more-all}
use Rattle.bit_vector.proofs.places.has_more.Goals as goal

pub returns-clause-none : goal.returns-clause-none
returns-clause-none c none i one = more-none c.args.word c.args.other i c.ranges.word.fits c.ranges.other.fits none one

pub returns-clause-all : goal.returns-clause-all
returns-clause-all c all = more-all c.args.word c.args.other c.ranges.word.fits c.ranges.other.fits all
