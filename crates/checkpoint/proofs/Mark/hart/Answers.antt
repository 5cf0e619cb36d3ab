use Rattle.std.proofs.Common.{Some, ap, sym, ◌∙◌}
use Rattle.checkpoint.specs.MarkValue.{state_of}
use Rattle.checkpoint.proofs.Mark.hart.Goals as goal

pub returns-in-Ok-clause-ok : goal.returns-in-Ok-clause-ok
returns-in-Ok-clause-ok g c = ap state_of (sym c.self.view_is) ∙ c.self.invariant.1 ∙ ap Some (sym c.in-Ok.ensures)
