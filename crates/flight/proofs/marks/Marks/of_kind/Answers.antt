use Rattle.std.proofs.Common.{[], ◌∷◌, ap, ◌∙◌}
use Rattle.flight.specs.declared.marks.Marks.{Marks}
use Rattle.flight.specs.Marked.{word_of, is_of_kind, is_waiting, is_load_that_missed}
use Rattle.flight.proofs.KindWords.{kind-word}
use Rattle.flight.proofs.marks.Marks.of_kind.Goals as goal

pub returns : goal.returns
returns c es is = kind-word es (word_of is_waiting es ∷ word_of is_load_that_missed es ∷ []) _ _ (ap (λ (m : Marks). m.words) is) c.index.ensures.bound ∙ ap (λ k. word_of (is_of_kind k) es) c.index.ensures.index
