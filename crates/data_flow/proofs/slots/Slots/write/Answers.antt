use Rattle.std.proofs.Common.{ap, ◌∙◌}
use Rattle.data_flow.specs.declared.slots.Slots.{Slots}
use Rattle.data_flow.specs.declared.slots.Unread.{Unread, After}
use Rattle.data_flow.specs.Slots.{with_slot}
use Rattle.data_flow.proofs.slots.Slots.write.Goals as goal

pub returns : goal.returns
returns c =
    let n = c.args.renamed in
    let value = c.of-2.ensures ∙ ap (λ before. After before c.args.slot n.operands.stamp n.operands.first n.operands.second) c.replace-before.ensures.value in
    ap (λ (v : Unread). let s : Slots = record (with_slot c.args.self.now c.args.slot n) { unread = record { marker = record {}; value = v } } in s) value
