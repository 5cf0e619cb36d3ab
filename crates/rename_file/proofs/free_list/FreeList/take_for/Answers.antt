use Rattle.std.proofs.Common.{Some, sym, ap, ◌∙◌, arith}
use Rattle.rename_file.proofs.Stacks.{counted, kept, popped, newest}
use Rattle.rename_file.proofs.free_list.FreeList.take_for.Goals as goal

pub returns-clause-newest : goal.returns-clause-newest
returns-clause-newest c = λ named.
    let room = c.requires.some named in
    newest c.self.inside.slots c.self.inside.count c.args.self.now c.self.view_is c.self.invariant.0 c.self.invariant.1 c.from.result c.index-self-from.result c.from.ensures room c.index-self-from.is
    ∙ ap Some (c.index-self-from.is ∙ sym (c.chosen.ensures.one (c.needed-count.ensures.one named)))

pub returns-clause-rest : goal.returns-clause-rest
returns-clause-rest c = λ named.
    let room = c.requires.some named in
    let one = c.needed-count.ensures.one named in
    let count = counted c.self.inside.slots c.self.inside.count c.args.self.now c.self.view_is c.self.invariant.0 c.self.invariant.1 in
    popped c.self.inside.slots c.self.inside.count c.args.self.now c.self.view_is c.self.invariant.0 c.self.invariant.1 _ (omega (arith, room, one, count))

pub returns-clause-zero : goal.returns-clause-zero
returns-clause-zero c = λ zero. c.chosen.ensures.none (c.needed-count.ensures.none zero)

pub returns-clause-same : goal.returns-clause-same
returns-clause-same c = λ zero.
    let none = c.needed-count.ensures.none zero in
    kept c.self.inside.slots c.self.inside.count c.args.self.now c.self.view_is c.self.invariant.0 c.self.invariant.1 _ (omega (arith, none))
