use Rattle.std.proofs.Common.{ap, sym, refl, ◌∙◌}
use Rattle.core_view.specs.Flight.{is_queued, is_done}
use Rattle.flight.specs.declared.marks.Marks.{Marks}
use Rattle.flight.specs.Marked.{is_waiting, is_load_that_missed, has_completed}
use Rattle.flight.proofs.KindWords.{kinds-same}
use Rattle.flight.proofs.EightWords.{marks-of-parts}
use Rattle.flight.proofs.Words.{word-set, word-same}
use Rattle.flight.proofs.marks.Marks.finish.Goals as goal

pub returns : goal.returns
returns c es e x is within few was same done =
    marks-of-parts es _ _ _ _ _
    (ap (λ (m : Marks). m.words) is)
    (kinds-same es e c.args.place same)
    (word-same is_waiting es e _ c.args.place refl (ap is_queued done ∙ sym (ap is_queued was)))
    (word-same is_load_that_missed es e _ c.args.place refl (rw (done, was, same) refl))
    (word-set has_completed es e _ _ _ _ (ap (λ (m : Marks). m.done) is) within few (sym (ap is_done done)) c.assign-self.ensures)
