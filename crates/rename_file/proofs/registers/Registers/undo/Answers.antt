use Rattle.std.proofs.Common.{ap, get_or, ◌∙◌, sym, arith}
use Rattle.std.specs.Prelude.{slice_index}
use Rattle.std.proofs.lemmas.List.{get_or_read}
use Rattle.rename_file.specs.Shown.{shown}
use Rattle.rename_file.proofs.FoundContext.{found, undone_file, undone_undoable, previous_found}
use Rattle.rename_file.proofs.registers.Registers.undo.Goals as goal

pub undo-requires-clause-previous : goal.undo-requires-clause-previous
undo-requires-clause-previous g c =
    let f = shown c.self.inside in
    let at = found f c.args.context c.index-2.result (get_or c.self.inside.maps c.index-2.result c.index-self-index-2.result) c.index-2.ensures.value (omega arith) (ap (get_or c.self.inside.maps c.index-2.result) c.index-self-index-2.is) in
    let some = rw (← c.self.view_is) at c.requires.some in
    let newest = rw (← c.self.view_is) at c.requires.newest in
    let previous = previous_found c.self.inside.previous f c.args.context c.index-2.result (get_or c.self.inside.maps c.index-2.result c.index-self-index-2.result) c.args.rename c.self.invariant.file at some newest c.self.invariant.undoable in
    sym c.index-self-index.is ∙ get_or_read c.self.inside.previous c.index.result c.index-self-index.result (omega arith) c.index-self-index.is 0 ∙ ap (slice_index c.self.inside.previous) c.index.ensures.value ∙ previous

pub invariant_of-self : goal.invariant_of-self
invariant_of-self g c =
    let f = shown c.self.inside in
    let at = found f c.args.context c.index-2.result (get_or c.self.inside.maps c.index-2.result c.index-self-index-2.result) c.index-2.ensures.value (omega arith) (ap (get_or c.self.inside.maps c.index-2.result) c.index-self-index-2.is) in
    let some = rw (← c.self.view_is) at c.requires.some in
    let newest = rw (← c.self.view_is) at c.requires.newest in
    rw c.push.ensures (record {
      file = undone_file f c.args.context c.index-2.result (get_or c.self.inside.maps c.index-2.result c.index-self-index-2.result) c.undo.new.self c.args.rename c.self.invariant.file at some c.undo.ensures newest;
      room = c.self.invariant.room;
      undoable = undone_undoable c.self.inside.previous f c.args.context c.index-2.result (get_or c.self.inside.maps c.index-2.result c.index-self-index-2.result) c.undo.new.self c.self.invariant.file at c.undo.ensures c.self.invariant.undoable;
    })

pub returns-clause-file : goal.returns-clause-file
returns-clause-file g c = (invariant_of-self g c).file
