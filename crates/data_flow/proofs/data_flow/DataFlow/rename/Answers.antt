use Rattle.std.proofs.Common.{get_or}
use Rattle.data_flow.proofs.Places.{here}
use Rattle.data_flow.proofs.Renames.{free_for, has_room, rename_leaves}
use Rattle.data_flow.proofs.data_flow.DataFlow.rename.Goals as goal

pub named-renamed-requires : goal.named-renamed-requires
named-renamed-requires g c = free_for c.self.inside c.args.self.now c.args.operands.destination c.self.view_is c.self.invariant c.requires.free

pub push-requires : goal.push-requires
push-requires g c =
    let h = here c.self.inside c.args.self.now c.args.context c.index.result c.index-self-index.result c.self.view_is c.self.invariant c.index.ensures.value c.index.ensures.bound in
    let found = get_or c.self.inside.renamed c.index.result c.index-self-index.result in
    has_room c.self.inside c.args.self.now c.args.context c.index.result found h c.requires.room

pub invariant_of-self : goal.invariant_of-self
invariant_of-self g c =
    let h = here c.self.inside c.args.self.now c.args.context c.index.result c.index-self-index.result c.self.view_is c.self.invariant c.index.ensures.value c.index.ensures.bound in
    let found = get_or c.self.inside.renamed c.index.result c.index-self-index.result in
    let k = rename_leaves c.self.inside c.args.self.now c.args.context c.index.result c.args.operands found c.push.new.self c.named-renamed.result c.named-renamed.new.registers
    c.self.view_is c.self.invariant h c.named-renamed.ensures.new c.requires.younger c.push.ensures c.named-renamed.ensures.banks c.named-renamed.ensures.cells in
    record { file = c.named-renamed.ensures.file c.self.invariant.file; tied = k.tied; waiting = k.waiting }

pub returns : goal.returns
returns g c =
    let h = here c.self.inside c.args.self.now c.args.context c.index.result c.index-self-index.result c.self.view_is c.self.invariant c.index.ensures.value c.index.ensures.bound in
    let found = get_or c.self.inside.renamed c.index.result c.index-self-index.result in
    let k = rename_leaves c.self.inside c.args.self.now c.args.context c.index.result c.args.operands found c.push.new.self c.named-renamed.result c.named-renamed.new.registers
    c.self.view_is c.self.invariant h c.named-renamed.ensures.new c.requires.younger c.push.ensures c.named-renamed.ensures.banks c.named-renamed.ensures.cells in
    k.shows
