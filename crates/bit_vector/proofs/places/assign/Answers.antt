use Rattle.bit_vector.proofs.Masks.{mask-assign, byte-number}
use Rattle.bit_vector.proofs.places.assign.Goals as goal

pub returns : goal.returns
returns c ms e within short = rw (c.clear.ensures ms e within short) (mask-assign ms c.args.place c.args.bit c.from.result within c.requires (byte-number c.args.bit c.from.result c.from.ensures))
