use Rattle.std.proofs.Common.{◌∙◌, ap}
use Rattle.std.specs.Int.{bit_at}
use Rattle.bit_vector.proofs.Bits.{bit-turned}
use Rattle.bit_vector.proofs.slots.turn.Goals as goal

pub returns : goal.returns
returns c i low = ap (λ n. bit_at n i) c.rotate_right.ensures ∙ bit-turned c.args.word c.args.base i c.ranges.word.fits c.requires low
