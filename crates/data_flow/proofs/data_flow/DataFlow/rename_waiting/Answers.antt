use Rattle.std.proofs.Common.{get_or, ap, ◌∙◌}
use Rattle.std.specs.List.{list_any}
use Rattle.issue_queue.specs.Entry.{is_named}
use Rattle.data_flow.specs.declared.operands.Operands.{Operands}
use Rattle.data_flow.proofs.Places.{here}
use Rattle.data_flow.proofs.Renames.{free_for, has_room}
use Rattle.data_flow.proofs.RenamedWaits.{unnamed, same_count, rename_wait_leaves}
use Rattle.data_flow.proofs.data_flow.DataFlow.rename_waiting.Goals as goal

pub named-newest-requires : goal.named-newest-requires
named-newest-requires g c = free_for c.self.inside c.args.self.now c.args.operands.destination c.self.view_is c.self.invariant c.requires.free

pub put_in-requires-clause-first : goal.put_in-requires-clause-first
put_in-requires-clause-first g c = same_count c.self.inside.registers c.named-newest.new.registers c.args.operands.destination c.named-newest.result.destination c.named-newest.result.first c.named-newest.ensures.cells c.named-newest.ensures.new.first_cell

pub put_in-requires-clause-second : goal.put_in-requires-clause-second
put_in-requires-clause-second g c = same_count c.self.inside.registers c.named-newest.new.registers c.args.operands.destination c.named-newest.result.destination c.named-newest.result.second c.named-newest.ensures.cells c.named-newest.ensures.new.second_cell

pub put_in-requires-clause-fresh : goal.put_in-requires-clause-fresh
put_in-requires-clause-fresh g c =
    ap (λ (o : Operands). list_any (is_named c.args.context o.stamp) c.self.inside.queue.entries) c.named-newest.ensures.new.operands ∙ unnamed c.self.inside c.args.self.now c.args.context c.args.operands.stamp c.self.view_is c.requires.fresh

pub push-requires : goal.push-requires
push-requires g c =
    let h = here c.self.inside c.args.self.now c.args.context c.index.result c.index-self-index.result c.self.view_is c.self.invariant c.index.ensures.value c.index.ensures.bound in
    let found = get_or c.self.inside.renamed c.index.result c.index-self-index.result in
    has_room c.self.inside c.args.self.now c.args.context c.index.result found h c.requires.room

pub invariant_of-self : goal.invariant_of-self
invariant_of-self g c =
    let h = here c.self.inside c.args.self.now c.args.context c.index.result c.index-self-index.result c.self.view_is c.self.invariant c.index.ensures.value c.index.ensures.bound in
    let found = get_or c.self.inside.renamed c.index.result c.index-self-index.result in
    let k = rename_wait_leaves c.self.inside c.args.self.now c.args.context c.index.result c.args.operands found c.push.new.self c.named-newest.result c.named-newest.new.registers c.args.guessed c.args.load c.args.speculative c.put_in.new.queue
    c.self.view_is c.self.invariant h c.named-newest.ensures.new c.requires.younger c.push.ensures c.named-newest.ensures.banks c.named-newest.ensures.cells c.put_in.ensures in
    record { file = c.named-newest.ensures.file c.self.invariant.file; tied = k.tied; waiting = k.waiting }

pub returns : goal.returns
returns g c =
    let h = here c.self.inside c.args.self.now c.args.context c.index.result c.index-self-index.result c.self.view_is c.self.invariant c.index.ensures.value c.index.ensures.bound in
    let found = get_or c.self.inside.renamed c.index.result c.index-self-index.result in
    let k = rename_wait_leaves c.self.inside c.args.self.now c.args.context c.index.result c.args.operands found c.push.new.self c.named-newest.result c.named-newest.new.registers c.args.guessed c.args.load c.args.speculative c.put_in.new.queue
    c.self.view_is c.self.invariant h c.named-newest.ensures.new c.requires.younger c.push.ensures c.named-newest.ensures.banks c.named-newest.ensures.cells c.put_in.ensures in
    k.shows
