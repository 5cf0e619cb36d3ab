use Rattle.std.proofs.Common.{arith}
use Rattle.flight.proofs.EightWords.{words-drop}
use Rattle.flight.proofs.marks.drop_oldest.Goals as goal

pub returns : goal.returns
returns c es is = words-drop es _ _ is (omega arith) c.without_first_of_each.ensures
