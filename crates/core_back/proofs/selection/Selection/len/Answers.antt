use Rattle.std.proofs.Common.{List, length, ap, arith}
use Rattle.std.proofs.lemmas.List.{length-drop}
use Rattle.core_view.specs.declared.note.EntryId.{EntryId}
use Rattle.core_back.proofs.selection.Selection.len.Goals as goal

pub returns : goal.returns
returns c = omega (arith, c.len.ensures.value, length-drop c.self.inside.issued c.self.inside.entries.items, ap (λ (names : List EntryId). length names) c.self.view_is)
