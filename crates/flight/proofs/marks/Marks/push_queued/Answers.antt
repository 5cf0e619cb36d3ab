use Rattle.std.proofs.Common.{[], ◌∷◌, ◌++◌, ap, refl, sym, ◌∙◌}
use Rattle.std.specs.Prelude.{◌&&◌}
use Rattle.flight.specs.declared.marks.Marks.{Marks}
use Rattle.core_view.specs.declared.entry.Stage.{Stage}
use Rattle.core_view.specs.Operations.{is_load}
use Rattle.core_view.specs.Flight.{is_queued, is_done}
use Rattle.flight.specs.Marked.{word_of, is_waiting, is_load_that_missed, missed_at_issue, has_completed}
use Rattle.flight.proofs.EightWords.{marks-of-parts}
use Rattle.flight.proofs.Words.{word-unset, and-none}
use Rattle.flight.proofs.marks.Marks.push_queued.Goals as goal

pub returns : goal.returns
returns c es e at queued =
    let o = c.args.entry.now.operation in
    let missed = ap (λ (s : Stage). is_load o && missed_at_issue s) queued ∙ sym (and-none (is_load o)) in
    let kinds = c.push_kind.ensures es (word_of is_waiting es ∷ word_of is_load_that_missed es ∷ []) (ap (λ (m : Marks). m.words) e) at in
    marks-of-parts (es ++ c.args.entry.now ∷ []) _ _ _ _ _
    (c.push_waiting.ensures es (es ++ c.args.entry.now ∷ []) c.args.entry.now (word_of is_load_that_missed es) kinds at (sym (ap is_queued queued)))
    refl
    refl
    (word-unset is_load_that_missed es c.args.entry.now _ refl missed)
    (word-unset has_completed es c.args.entry.now _ (ap (λ (m : Marks). m.done) e) (ap is_done queued))
