use Rattle.std.proofs.Common.{ap}
use Rattle.flight.specs.declared.marks.Marks.{Marks}
use Rattle.flight.specs.Marked.{has_completed}
use Rattle.flight.proofs.EightWords.{marks-of-words, words-take}
use Rattle.flight.proofs.Words.{word-take}
use Rattle.flight.proofs.marks.Marks.keep.Goals as goal

pub returns : goal.returns
returns c es e few =
    marks-of-words _ _ _
    (words-take es _ _ _ _ _ _ _ _ _ _ (ap (λ (m : Marks). m.words) e) few c.first.ensures c.first-2.ensures c.first-3.ensures c.first-4.ensures c.first-5.ensures c.first-6.ensures c.first-7.ensures c.first-8.ensures)
    (word-take has_completed es _ _ _ (ap (λ (m : Marks). m.done) e) few c.first-self.ensures)
