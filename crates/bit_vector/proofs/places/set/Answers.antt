use Rattle.bit_vector.proofs.Masks.{mask-set}
use Rattle.bit_vector.proofs.places.set.Goals as goal

pub returns : goal.returns
returns c ms e within = rw e (mask-set ms c.args.place within c.requires)
