use Rattle.bit_vector.proofs.Bits.{lowest-clear, lowest-set}
use Rattle.bit_vector.proofs.places.lowest.Goals as goal

pub returns-clause-clear : goal.returns-clause-clear
returns-clause-clear c i below = lowest-clear c.args.word i c.ranges.word.fits below

pub returns-clause-set : goal.returns-clause-set
returns-clause-set c below = lowest-set c.args.word c.ranges.word.fits below
