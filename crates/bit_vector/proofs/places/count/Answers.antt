use Rattle.bit_vector.proofs.Masks.{mask-count}
use Rattle.bit_vector.proofs.places.count.Goals as goal

pub returns : goal.returns
returns c ms e = rw e (mask-count ms)
