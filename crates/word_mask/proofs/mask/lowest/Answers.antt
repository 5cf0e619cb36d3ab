use Rattle.word_mask.proofs.Words.{lowest_bit}
use Rattle.std.proofs.Math.Facts.{Fits-lt-pow}
use Rattle.word_mask.proofs.mask.lowest.Goals as goal

pub returns-clause-set : goal.returns-clause-set
returns-clause-set c = (lowest_bit c.args.word c.requires (Fits-lt-pow c.ranges.word)).here

pub returns-clause-below : goal.returns-clause-below
returns-clause-below c = (lowest_bit c.args.word c.requires (Fits-lt-pow c.ranges.word)).below
