use Rattle.std.proofs.Common.{ap, get_or, ◌<◌, arith}
use Rattle.rename_file.specs.Shown.{shown}
use Rattle.rename_file.proofs.Files.{has_room}
use Rattle.rename_file.proofs.FoundContext.{found, committed_file, committed_undoable}
use Rattle.rename_file.proofs.registers.Registers.commit.Goals as goal

pub push-requires : goal.push-requires
push-requires g c =
    let f = shown c.self.inside in
    let some = rw (← c.self.view_is) at c.requires.some in
    omega (arith, has_room f c.args.context (omega arith) some c.self.invariant.file, c.self.invariant.room)

pub invariant_of-self : goal.invariant_of-self
invariant_of-self g c =
    let f = shown c.self.inside in
    let below : c.args.context < 8 = omega arith in
    let at = found f c.args.context c.index.result (get_or c.self.inside.maps c.index.result c.index-self-index.result) c.index.ensures.value below (ap (get_or c.self.inside.maps c.index.result) c.index-self-index.is) in
    let some = rw (← c.self.view_is) at c.requires.some in
    let ready = rw (← c.self.view_is) at c.requires.ready in
    rw c.push.ensures (record { file = committed_file f c.args.context c.index.result (get_or c.self.inside.maps c.index.result c.index-self-index.result) c.commit-freed.new.self c.commit-freed.result c.self.invariant.file at some ready c.commit-freed.ensures.map c.commit-freed.ensures.freed; room = c.self.invariant.room; undoable = committed_undoable c.self.inside.previous f c.args.context c.index.result (get_or c.self.inside.maps c.index.result c.index-self-index.result) c.commit-freed.new.self c.self.invariant.file at some c.commit-freed.ensures.map c.self.invariant.undoable })

pub returns-clause-file : goal.returns-clause-file
returns-clause-file g c = (invariant_of-self g c).file
