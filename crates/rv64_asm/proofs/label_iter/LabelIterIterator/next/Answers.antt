use Rattle.std.proofs.Common.{◌<◌, ◌+◌, ◌∷◌, ◌∙◌, length, drop, ap, arith}
use Rattle.std.proofs.lemmas.List.{drop_more}
use Rattle.std.proofs.lemmas.Option.{get_or_from_slice_get}
use Rattle.rv64_asm.specs.Label.{Label}
use Rattle.rv64_asm.proofs.label_iter.LabelIterIterator.next.Goals as goal

pub returns-clause-steps : goal.returns-clause-steps
returns-clause-steps g c =
    let all = c.args.self.now.labels.now in
    let i = c.args.self.now.index in
    let label : Label = (c.at-label.result.0.now, c.at-label.result.1) in
    let within : i < length all = grind (arith, c.len.ensures, c.if-self-len.false, c.args.self.now.within) in
    drop_more all i label within ∙ ap (λ (x : Label). x ∷ drop (i + 1) all) (get_or_from_slice_get all i label label c.at-label.ensures)
