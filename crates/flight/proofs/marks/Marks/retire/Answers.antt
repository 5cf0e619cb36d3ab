use Rattle.std.proofs.Common.{map, ap, ◌∙◌}
use Rattle.flight.specs.declared.marks.Marks.{Marks}
use Rattle.flight.specs.Marked.{has_completed}
use Rattle.flight.proofs.EightWords.{marks-of-words, word-drop}
use Rattle.flight.proofs.marks.Marks.retire.Goals as goal

pub returns : goal.returns
returns c es e =
    marks-of-words _ _ _
    (c.drop_oldest.ensures es (ap (λ (m : Marks). m.words) e))
    (c.without_first-self.ensures (map has_completed es) (ap (λ (m : Marks). m.done) e) ∙ word-drop has_completed es)
