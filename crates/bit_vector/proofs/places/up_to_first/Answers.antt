use Rattle.std.proofs.Common.{refl}
use Rattle.bit_vector.proofs.Bits.{up-set, up-clear}
use Rattle.bit_vector.proofs.places.up_to_first.Goals as goal

pub returns-clause-set : goal.returns-clause-set
returns-clause-set c i low clear = up-set c.args.word _ i c.ranges.word.fits refl low clear

pub returns-clause-clear : goal.returns-clause-clear
returns-clause-clear c i set_ j below = up-clear c.args.word _ i j c.ranges.word.fits refl set_ below
