use Rattle.std.proofs.Common.{ap, ◌∙◌, sym}
use Rattle.std.specs.Prelude.{◌&&◌}
use Rattle.flight.specs.Marked.{missed_at_issue}
use Rattle.flight.proofs.marks.is_load_that_missed.Goals as goal

pub returns-then-is_load : goal.returns-then-is_load
returns-then-is_load c = c.has_missed.ensures ∙ ap (λ b. b && missed_at_issue c.args.entry.now.stage) (sym c.if-is_load.true ∙ c.is_load.ensures)
