use Rattle.std.proofs.Common.{map, ◌∙◌}
use Rattle.core_view.specs.Flight.{is_missed_load}
use Rattle.flight.proofs.Words.{missed-word, count-tests}
use Rattle.flight.proofs.marks.Marks.missed_count.Goals as goal

pub returns : goal.returns
returns c es is short = c.count.ensures (map is_missed_load es) (missed-word c.args.self.now es is short) ∙ count-tests is_missed_load es
