use Rattle.std.proofs.Math.Facts.{Fits-lt-pow}
use Rattle.word_mask.proofs.Words.{has_without}
use Rattle.word_mask.proofs.mask.without.Goals as goal

pub returns : goal.returns
returns c = λ p. has_without c.args.word c.args.other p (Fits-lt-pow c.ranges.word) (Fits-lt-pow c.ranges.other)
