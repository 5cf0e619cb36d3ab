use Rattle.std.proofs.Common.{refl}
use Rattle.entry_stages.proofs.renaming.operands.Goals as goal

pub returns : goal.returns
returns c = rw (c.destination.ensures, c.first_source.ensures, c.second_source.ensures) refl
