use Rattle.std.proofs.Math.Facts.{Fits-lt-pow}
use Rattle.word_mask.proofs.Words.{without_bit_where, byte_number}
use Rattle.word_mask.proofs.mask.removed.Goals as goal

pub returns : goal.returns
returns c = λ p. without_bit_where c.args.word c.args.place p c.from.result c.args.flag (Fits-lt-pow c.ranges.word) c.requires (byte_number c.args.flag c.from.result c.from.ensures)
