use Rattle.std.proofs.Common.{◌≡◌, length, arith, ◌-◌, ◌+◌}
use Rattle.data_flow.specs.Flow.{lane}
use Rattle.data_flow.proofs.Places.{here}
use Rattle.data_flow.proofs.Cuts.{ordered, kept_all, kept_length, kept_less, idle_newest}
use Rattle.data_flow.proofs.data_flow.DataFlow.keep_oldest.Goals as goal

pub loop-done-init : goal.loop-done-init
loop-done-init g c =
    let h = here c.self.inside c.args.self.now c.args.context c.index.result c.index-self-index.result c.self.view_is c.self.invariant c.index.ensures.value c.index.ensures.bound in
    let all : c.len-len.result + c.args.left - c.args.left ≡ length (lane c.args.self.now c.args.context).nodes = omega (arith, h.count, c.len-len.ensures.value) in
    kept_all c.args.self.now c.args.context (c.len-len.result + c.args.left - c.args.left) all

pub undo_newest-requires-clause-some : goal.undo_newest-requires-clause-some
undo_newest-requires-clause-some g c =
    let h = here c.self.inside c.args.self.now c.args.context c.index.result c.index-self-index.result c.self.view_is c.self.invariant c.index.ensures.value c.index.ensures.bound in
    let o = ordered c.self.inside c.args.self.now c.args.context c.self.view_is c.self.invariant h.below in
    omega (arith, kept_length c.args.self.now c.loop-done.self c.args.context (c.len-len.result + c.args.left - c.loop-done._done) o.in_lanes c.loop-done.invariant)

pub undo_newest-requires-clause-idle : goal.undo_newest-requires-clause-idle
undo_newest-requires-clause-idle g c =
    let h = here c.self.inside c.args.self.now c.args.context c.index.result c.index-self-index.result c.self.view_is c.self.invariant c.index.ensures.value c.index.ensures.bound in
    let o = ordered c.self.inside c.args.self.now c.args.context c.self.view_is c.self.invariant h.below in
    idle_newest c.args.self.now c.loop-done.self c.args.context (c.len-len.result + c.args.left - c.loop-done._done) c.args.left o.in_lanes c.loop-done.invariant (omega arith) c.requires.idle

pub loop-done-preserved : goal.loop-done-preserved
loop-done-preserved g c =
    let h = here c.self.inside c.args.self.now c.args.context c.index.result c.index-self-index.result c.self.view_is c.self.invariant c.index.ensures.value c.index.ensures.bound in
    let o = ordered c.self.inside c.args.self.now c.args.context c.self.view_is c.self.invariant h.below in
    let more = kept_less c.args.self.now c.loop-done.self c.undo_newest.new.self c.args.context (c.len-len.result + c.args.left - c.loop-done._done) o.in_lanes c.loop-done.invariant (omega arith) c.undo_newest.ensures in
    let less : c.len-len.result + c.args.left - c.loop-done._done - 1 ≡ c.len-len.result + c.args.left - (c.loop-done._done + 1) = omega arith in
    rw less at more

pub returns : goal.returns
returns g c =
    let h = here c.self.inside c.args.self.now c.args.context c.index.result c.index-self-index.result c.self.view_is c.self.invariant c.index.ensures.value c.index.ensures.bound in
    let end : c.len-len.result + c.args.left - c.loop-done._done ≡ c.args.left = omega (arith, h.count, c.len-len.ensures.value, c.requires.within) in
    rw end at c.loop-done.invariant.is
