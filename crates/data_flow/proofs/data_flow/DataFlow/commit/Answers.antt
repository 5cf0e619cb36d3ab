use Rattle.std.proofs.Common.{◌≡◌, get_or, arith, ap, sym, refl, ◌∙◌, false}
use Rattle.std.specs.Prelude.{◌==◌, set}
use Rattle.circular_buffer.specs.Buffer.{Buffer}
use Rattle.rename_file.specs.File.{File, bank}
use Rattle.data_flow.specs.declared.operands.Renamed.{Renamed}
use Rattle.data_flow.specs.Flow.{lane, with_lane, without_oldest}
use Rattle.data_flow.proofs.LaneEvents.{bank_past, IsCommittable}
use Rattle.data_flow.proofs.Places.{Here, here}
use Rattle.data_flow.proofs.Sources.{not_true, not_false}
use Rattle.data_flow.proofs.Steps.{IsFront, Leaves, rename_of, front_is, commit_asks, commit_leaves, one_commit, no_commit}
use Rattle.data_flow.proofs.data_flow.DataFlow.commit.Given.{Over}
use Rattle.data_flow.proofs.data_flow.DataFlow.commit.Goals as goal
use Rattle.data_flow.proofs.data_flow.DataFlow.commit.Goals.{After-pop_front-oldest}

pub pop_front-oldest-requires : goal.pop_front-oldest-requires
pop_front-oldest-requires g c =
    let h = here c.self.inside c.args.self.now c.args.context c.index.result c.index-self-index.result c.self.view_is c.self.invariant c.index.ensures.value c.index.ensures.bound in
    omega (arith, h.count, c.requires.some)

-- ---- the context's active list, of which the oldest is taken out

abbrev found : (g : Over) (c : After-pop_front-oldest g) → Buffer Renamed
found g c = get_or c.self.inside.renamed c.index.result c.index-self-index.result

at : (g : Over) (c : After-pop_front-oldest g) → Here c.self.inside c.args.self.now c.args.context c.index.result (found g c)
at g c = here c.self.inside c.args.self.now c.args.context c.index.result c.index-self-index.result c.self.view_is c.self.invariant c.index.ensures.value c.index.ensures.bound

front : (g : Over) (c : After-pop_front-oldest g) → IsFront (found g c) c.pop_front-oldest.result
front g c = front_is (found g c) c.pop_front-oldest.result c.pop_front-oldest.ensures.oldest

asked : (g : Over) (c : After-pop_front-oldest g) → (c.pop_front-oldest.result.name == 0) ≡ false → IsCommittable c.self.inside.registers.cells (bank c.self.inside.registers c.args.context) (rename_of c.pop_front-oldest.result)
asked g c named = commit_asks c.self.inside c.args.self.now c.args.context c.index.result (found g c) c.pop_front-oldest.result (at g c) (front g c) named c.requires.done

leaves : (g : Over) (c : After-pop_front-oldest g) (r : File) → r.banks ≡ set c.self.inside.registers.banks c.args.context (bank_past (bank c.self.inside.registers c.args.context) (c.pop_front-oldest.result.name == 0)) → r.cells ≡ c.self.inside.registers.cells
    → Leaves r (set c.self.inside.renamed c.index.result c.pop_front-oldest.new.self) c.self.inside.queue (with_lane c.args.self.now c.args.context (without_oldest (lane c.args.self.now c.args.context)))
leaves g c r banks cells =
    commit_leaves c.self.inside c.args.self.now c.args.context c.index.result (found g c) c.pop_front-oldest.new.self c.pop_front-oldest.result r c.self.view_is c.self.invariant (at g c) (front g c) c.requires.idle c.pop_front-oldest.ensures.rest banks cells

-- ---- it has a destination

pub commit-requires-clause-some : goal.commit-requires-clause-some
commit-requires-clause-some g c = (asked g (goal.at.commit-requires-clause-some g c).After-pop_front-oldest (not_true _ (sym c.if-has_destination.ensures))).some

pub commit-requires-clause-oldest : goal.commit-requires-clause-oldest
commit-requires-clause-oldest g c = c.rename.ensures ∙ (asked g (goal.at.commit-requires-clause-oldest g c).After-pop_front-oldest (not_true _ (sym c.if-has_destination.ensures))).oldest

pub commit-requires-clause-ready : goal.commit-requires-clause-ready
commit-requires-clause-ready g c = (asked g (goal.at.commit-requires-clause-ready g c).After-pop_front-oldest (not_true _ (sym c.if-has_destination.ensures))).ready

pub invariant_of-self : goal.invariant_of-self
invariant_of-self g c =
    let k = leaves g (goal.at.invariant_of-self g c).After-pop_front-oldest c.commit.new.self (one_commit c.self.inside c.args.context _ c.commit.new.self (not_true _ (sym c.if-has_destination.ensures)) c.commit.ensures.committed) (ap (λ (f : File). f.cells) c.commit.ensures.committed) in
    record { file = c.commit.ensures.file; tied = k.tied; waiting = k.waiting }

pub returns-then-has_destination : goal.returns-then-has_destination
returns-then-has_destination g c =
    (leaves g (goal.at.returns-then-has_destination g c).After-pop_front-oldest c.commit.new.self (one_commit c.self.inside c.args.context _ c.commit.new.self (not_true _ (sym c.if-has_destination.ensures)) c.commit.ensures.committed) (ap (λ (f : File). f.cells) c.commit.ensures.committed)).shows

-- ---- it has none

pub invariant_of-self-else-has_destination : goal.invariant_of-self-else-has_destination
invariant_of-self-else-has_destination g c =
    let k = leaves g (goal.at.invariant_of-self-else-has_destination g c).After-pop_front-oldest c.self.inside.registers (no_commit c.self.inside c.args.context _ (not_false _ (sym c.if-has_destination.ensures))) refl in
    record { file = c.self.invariant.file; tied = k.tied; waiting = k.waiting }

pub returns-else-has_destination : goal.returns-else-has_destination
returns-else-has_destination g c = (leaves g (goal.at.returns-else-has_destination g c).After-pop_front-oldest c.self.inside.registers (no_commit c.self.inside c.args.context _ (not_false _ (sym c.if-has_destination.ensures))) refl).shows
