use Rattle.std.proofs.Common.{refl}
use Rattle.flight.proofs.marks.Marks.new.Goals as goal

pub returns : goal.returns
returns c = refl
