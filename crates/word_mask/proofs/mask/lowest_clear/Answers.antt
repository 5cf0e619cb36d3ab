use Rattle.word_mask.proofs.Words.{lowest_gap}
use Rattle.std.proofs.Math.Facts.{Fits-lt-pow}
use Rattle.word_mask.proofs.mask.lowest_clear.Goals as goal

pub returns-clause-clear : goal.returns-clause-clear
returns-clause-clear c = rw c.trailing_ones.ensures ((lowest_gap c.args.word (Fits-lt-pow c.ranges.word) c.requires).here)

pub returns-clause-below : goal.returns-clause-below
returns-clause-below c = rw c.trailing_ones.ensures ((lowest_gap c.args.word (Fits-lt-pow c.ranges.word) c.requires).below)

pub returns-clause-bound : goal.returns-clause-bound
returns-clause-bound c = rw c.trailing_ones.ensures ((lowest_gap c.args.word (Fits-lt-pow c.ranges.word) c.requires).bound)
