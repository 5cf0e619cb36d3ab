use Rattle.std.proofs.Common.{arith}
use Rattle.bit_vector.proofs.Masks.{mask-pushed, byte-number}
use Rattle.bit_vector.proofs.places.push.Goals as goal

pub returns : goal.returns
returns c ms e n = rw e (rw n (mask-pushed ms c.args.bit c.from.result (omega (arith, n, c.requires)) (byte-number c.args.bit c.from.result c.from.ensures)))
