use Rattle.std.proofs.Common.{length-set, arith}
use Rattle.bit_vector.proofs.Masks.{mask-clear, mask-fits}
use Rattle.bit_vector.proofs.places.clear.Goals as goal

pub returns : goal.returns
returns c ms e within short = rw e (mask-clear ms c.args.place within c.requires (mask-fits ms short) (mask-fits _ (omega (arith, length-set ms c.args.place))))
