use Rattle.std.proofs.Common.{[], ◌∷◌, ◌++◌, set, get_or, ap, refl}
use Rattle.flight.specs.declared.marks.Marks.{Marks}
use Rattle.flight.specs.Marked.{word_of, is_waiting, is_load_that_missed, has_completed}
use Rattle.flight.proofs.EightWords.{marks-of-parts}
use Rattle.flight.proofs.Words.{word-push}
use Rattle.flight.proofs.marks.Marks.push.Goals as goal

pub returns : goal.returns
returns c es e at =
    let missed = word_of is_load_that_missed es in
    let kinds = c.push_kind.ensures es (word_of is_waiting es ∷ missed ∷ []) (ap (λ (m : Marks). m.words) e) at in
    let pushed = c.push_waiting.ensures es (es ++ c.args.entry.now ∷ []) c.args.entry.now missed kinds at c.is_waiting.ensures in
    marks-of-parts (es ++ c.args.entry.now ∷ []) _ _ _ _ _
    (ap (λ ws. set ws 7 c.push.result) pushed)
    refl
    refl
    (word-push is_load_that_missed es c.args.entry.now _ _ _ _ (ap (λ ws. get_or ws 7 0) pushed) at c.is_load_that_missed-missed.ensures c.push.ensures)
    (word-push has_completed es c.args.entry.now _ _ _ _ (ap (λ (m : Marks). m.done) e) at c.is_done.ensures c.push-self.ensures)
