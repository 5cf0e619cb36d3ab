use Rattle.std.proofs.Common.{◌≡◌, get_or, arith, ap, sym, refl, ◌∙◌, false}
use Rattle.std.specs.Prelude.{◌==◌, set}
use Rattle.circular_buffer.specs.Buffer.{Buffer}
use Rattle.rename_file.specs.File.{File, bank}
use Rattle.data_flow.specs.declared.operands.Renamed.{Renamed}
use Rattle.data_flow.specs.Flow.{lane, with_lane, without_newest}
use Rattle.data_flow.proofs.LaneEvents.{bank_before, IsUndoable}
use Rattle.data_flow.proofs.Places.{Here, here}
use Rattle.data_flow.proofs.Sources.{not_true, not_false}
use Rattle.data_flow.proofs.Steps.{IsBack, Leaves, rename_of, back_is, undo_asks, undo_leaves, one_undo, no_undo}
use Rattle.data_flow.proofs.data_flow.DataFlow.undo_newest.Given.{Over}
use Rattle.data_flow.proofs.data_flow.DataFlow.undo_newest.Goals as goal
use Rattle.data_flow.proofs.data_flow.DataFlow.undo_newest.Goals.{After-pop_back-newest}

pub pop_back-newest-requires : goal.pop_back-newest-requires
pop_back-newest-requires g c =
    let h = here c.self.inside c.args.self.now c.args.context c.index.result c.index-self-index.result c.self.view_is c.self.invariant c.index.ensures.value c.index.ensures.bound in
    omega (arith, h.count, c.requires.some)

-- ---- the context's active list, of which the newest is taken out

abbrev found : (g : Over) (c : After-pop_back-newest g) → Buffer Renamed
found g c = get_or c.self.inside.renamed c.index.result c.index-self-index.result

at : (g : Over) (c : After-pop_back-newest g) → Here c.self.inside c.args.self.now c.args.context c.index.result (found g c)
at g c = here c.self.inside c.args.self.now c.args.context c.index.result c.index-self-index.result c.self.view_is c.self.invariant c.index.ensures.value c.index.ensures.bound

back : (g : Over) (c : After-pop_back-newest g) → IsBack (found g c) c.pop_back-newest.result
back g c = back_is (found g c) c.pop_back-newest.result c.pop_back-newest.ensures.youngest

asked : (g : Over) (c : After-pop_back-newest g) → (c.pop_back-newest.result.name == 0) ≡ false → IsUndoable (bank c.self.inside.registers c.args.context) (rename_of c.pop_back-newest.result)
asked g c named = undo_asks c.self.inside c.args.self.now c.args.context c.index.result (found g c) c.pop_back-newest.result (at g c) (back g c) named

leaves : (g : Over) (c : After-pop_back-newest g) (r : File) → r.banks ≡ set c.self.inside.registers.banks c.args.context (bank_before (bank c.self.inside.registers c.args.context) (c.pop_back-newest.result.name == 0)) → r.cells ≡ c.self.inside.registers.cells
    → Leaves r (set c.self.inside.renamed c.index.result c.pop_back-newest.new.self) c.self.inside.queue (with_lane c.args.self.now c.args.context (without_newest (lane c.args.self.now c.args.context)))
leaves g c r banks cells =
    undo_leaves c.self.inside c.args.self.now c.args.context c.index.result (found g c) c.pop_back-newest.new.self c.pop_back-newest.result r c.self.view_is c.self.invariant (at g c) (back g c) c.requires.idle c.pop_back-newest.ensures.rest banks cells

-- ---- it has a destination

pub undo-requires-clause-some : goal.undo-requires-clause-some
undo-requires-clause-some g c = (asked g (goal.at.undo-requires-clause-some g c).After-pop_back-newest (not_true _ (sym c.if-has_destination.ensures))).some

pub undo-requires-clause-newest : goal.undo-requires-clause-newest
undo-requires-clause-newest g c = c.rename.ensures ∙ (asked g (goal.at.undo-requires-clause-newest g c).After-pop_back-newest (not_true _ (sym c.if-has_destination.ensures))).newest

pub invariant_of-self : goal.invariant_of-self
invariant_of-self g c =
    let k = leaves g (goal.at.invariant_of-self g c).After-pop_back-newest c.undo.new.self (one_undo c.self.inside c.args.context _ c.undo.new.self (not_true _ (sym c.if-has_destination.ensures)) c.undo.ensures.undone) (ap (λ (f : File). f.cells) c.undo.ensures.undone) in
    record { file = c.undo.ensures.file; tied = k.tied; waiting = k.waiting }

pub returns-then-has_destination : goal.returns-then-has_destination
returns-then-has_destination g c =
    (leaves g (goal.at.returns-then-has_destination g c).After-pop_back-newest c.undo.new.self (one_undo c.self.inside c.args.context _ c.undo.new.self (not_true _ (sym c.if-has_destination.ensures)) c.undo.ensures.undone) (ap (λ (f : File). f.cells) c.undo.ensures.undone)).shows

-- ---- it has none

pub invariant_of-self-else-has_destination : goal.invariant_of-self-else-has_destination
invariant_of-self-else-has_destination g c =
    let k = leaves g (goal.at.invariant_of-self-else-has_destination g c).After-pop_back-newest c.self.inside.registers (no_undo c.self.inside c.args.context _ (not_false _ (sym c.if-has_destination.ensures))) refl in
    record { file = c.self.invariant.file; tied = k.tied; waiting = k.waiting }

pub returns-else-has_destination : goal.returns-else-has_destination
returns-else-has_destination g c = (leaves g (goal.at.returns-else-has_destination g c).After-pop_back-newest c.self.inside.registers (no_undo c.self.inside c.args.context _ (not_false _ (sym c.if-has_destination.ensures))) refl).shows
