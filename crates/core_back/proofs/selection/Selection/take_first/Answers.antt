use Rattle.std.proofs.Common.{◌≡◌, ◌+◌, List, ap, sym, ◌∙◌, get_or, arith}
use Rattle.std.proofs.lemmas.List.{get_or-drop}
use Rattle.core_view.specs.declared.note.EntryId.{EntryId}
use Rattle.core_back.proofs.selection.Selection.take_first.Goals as goal

pub returns-clause-value : goal.returns-clause-value
returns-clause-value c =
    let first : EntryId = c.index-deref-self.result in
    let entries : List EntryId = c.self.inside.entries.items in
    let place : c.self.inside.issued ≡ c.self.inside.issued + 0 = omega arith in
    c.index-deref-self.is ∙ ap (λ (es : List EntryId). get_or es c.self.inside.issued first) c.deref.ensures.0
    ∙ ap (λ i. get_or entries i first) place ∙ sym (get_or-drop c.self.inside.issued entries 0 first) ∙ ap (λ (es : List EntryId). get_or es 0 first) c.self.view_is
