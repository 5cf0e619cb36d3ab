use Rattle.join_law.proofs.Listed.{listed}
use Rattle.join_law.proofs.places.Eight.from_array.Goals as goal

pub returns : goal.returns
returns g c = listed c.args.values _ _ _ _ _ _ _ _ (search) (search) (search) (search) (search) (search) (search) (search) (search)
