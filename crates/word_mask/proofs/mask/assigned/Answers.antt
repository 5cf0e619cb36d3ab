use Rattle.word_mask.proofs.Words.{with_bit, without_bit}
use Rattle.std.proofs.Math.Facts.{Fits-lt-pow}
use Rattle.word_mask.proofs.mask.assigned.Goals as goal

pub returns-then-flag : goal.returns-then-flag
returns-then-flag c = λ p. rw c.if-flag.true (with_bit c.args.word c.args.place p c.requires)

pub returns-else-flag : goal.returns-else-flag
returns-else-flag c = λ p. rw c.if-flag.false (without_bit c.args.word c.args.place p (Fits-lt-pow c.ranges.word) c.requires)
