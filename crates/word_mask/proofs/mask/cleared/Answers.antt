use Rattle.std.proofs.Common.{eqb, ◌∙◌}
use Rattle.word_mask.specs.Mask.{has}
use Rattle.word_mask.proofs.Words.{without_bit, ones_without, cond_and_not, has-true}
use Rattle.std.proofs.Math.Facts.{Fits-lt-pow}
use Rattle.word_mask.proofs.mask.cleared.Goals as goal

pub returns-clause-bits : goal.returns-clause-bits
returns-clause-bits c = λ p. without_bit c.args.word c.args.place p (Fits-lt-pow c.ranges.word) c.requires.bound ∙ cond_and_not (eqb p c.args.place) (has c.args.word p)

pub returns-clause-ones : goal.returns-clause-ones
returns-clause-ones c = ones_without c.args.word c.args.place (Fits-lt-pow c.ranges.word) c.requires.bound (has-true c.args.word c.args.place c.requires.set)
