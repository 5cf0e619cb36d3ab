use Rattle.std.proofs.Common.{set, get_or, ap, refl}
use Rattle.flight.specs.declared.marks.Marks.{Marks}
use Rattle.flight.specs.Marked.{is_waiting, is_load_that_missed, has_completed}
use Rattle.flight.proofs.KindWords.{kinds-same}
use Rattle.flight.proofs.EightWords.{marks-of-parts}
use Rattle.flight.proofs.Words.{word-set, word-same}
use Rattle.flight.proofs.marks.Marks.issue.Goals as goal

pub returns : goal.returns
returns c es x e queued same issued within few =
    marks-of-parts es _ _ _ _ _
    (ap (λ (m : Marks). set (set m.words 6 c.assign.result) 7 c.assign-2.result) e)
    (kinds-same es c.args.entry.now c.args.place same)
    (word-set is_waiting es c.args.entry.now _ _ _ _ (ap (λ (m : Marks). get_or m.words 6 0) e) within few (rw issued refl) c.assign.ensures)
    (word-set is_load_that_missed es c.args.entry.now _ _ _ _ (ap (λ (m : Marks). get_or (set m.words 6 c.assign.result) 7 0) e) within few c.is_load_that_missed-missed.ensures c.assign-2.ensures)
    (word-same has_completed es c.args.entry.now _ _ (ap (λ (m : Marks). m.done) e) (rw (issued, queued) refl))
