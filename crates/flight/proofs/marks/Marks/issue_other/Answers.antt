use Rattle.std.proofs.Common.{set, get_or, ap, refl}
use Rattle.flight.specs.declared.marks.Marks.{Marks}
use Rattle.flight.specs.Marked.{is_waiting, is_load_that_missed, has_completed}
use Rattle.flight.proofs.KindWords.{kinds-same}
use Rattle.flight.proofs.EightWords.{marks-of-parts}
use Rattle.flight.proofs.Words.{word-set, word-same}
use Rattle.flight.proofs.marks.Marks.issue_other.Goals as goal

pub returns : goal.returns
returns c es d x e queued same other issued within few =
    marks-of-parts es _ _ _ _ _
    (ap (λ (m : Marks). set m.words 6 c.assign.result) e)
    (kinds-same es d c.args.place same)
    (word-set is_waiting es d _ _ _ _ (ap (λ (m : Marks). get_or m.words 6 0) e) within few (rw issued refl) c.assign.ensures)
    (word-same is_load_that_missed es d _ _ refl (rw (issued, queued, same, other) refl))
    (word-same has_completed es d _ _ (ap (λ (m : Marks). m.done) e) (rw (issued, queued) refl))
