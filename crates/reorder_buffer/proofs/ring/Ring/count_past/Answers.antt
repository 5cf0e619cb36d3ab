use Rattle.std.proofs.Common.{rules, ◌≡◌, ◌<◌, ◌≤◌, Some, slice_get, length, arith}
use Rattle.std.specs.Option.{ForSome}
use Rattle.reorder_buffer.proofs.Stamps.{take-below, below_up_to, below_more, past_from}
use Rattle.reorder_buffer.proofs.ring.Ring.count_past.Goals as goal

pub loop-keep-init : goal.loop-keep-init
loop-keep-init g c =
    let place : c.args.place < length c.self.inside.buffer.items = rw (← c.self.view_is) at c.requires.place in
    let kept : ForSome (slice_get c.self.inside.buffer.items c.args.place) (λ e. g.E.Stamped.stamp_of e < c.args.stamp) = rw (← c.self.view_is) at c.requires.kept in
    record { within = omega (arith, place); front = below_up_to g.E.Stamped.stamp_of c.args.stamp c.args.place c.self.inside.buffer.items c.self.invariant place kept }

pub loop-keep-preserved : goal.loop-keep-preserved
loop-keep-preserved g c =
    let read : slice_get c.self.inside.buffer.items c.loop-keep.keep ≡ Some c.unwrap-entry.result.now = search rules in
    let here : g.E.Stamped.stamp_of c.unwrap-entry.result.now < c.args.stamp = omega (arith, c.stamp.ensures, c.if-stamp.false) in
    record {
      within = omega (arith, c.loop-keep-test.true, c.len-len.ensures);
      front = below_more g.E.Stamped.stamp_of c.args.stamp c.loop-keep.keep c.self.inside.buffer.items c.unwrap-entry.result.now read here c.loop-keep.invariant.front;
    }

pub returns-then-stamp-clause-below : goal.returns-then-stamp-clause-below
returns-then-stamp-clause-below g c =
    let read : slice_get c.self.inside.buffer.items c.loop-keep.keep ≡ Some c.unwrap-entry.result.now = search rules in
    let here : c.args.stamp ≤ g.E.Stamped.stamp_of c.unwrap-entry.result.now = omega (arith, c.stamp.ensures, c.if-stamp.true) in
    rw (← c.self.view_is) (take-below g.E.Stamped.stamp_of c.args.stamp c.loop-keep.keep c.self.inside.buffer.items c.loop-keep.invariant.within c.loop-keep.invariant.front
    (past_from g.E.Stamped.stamp_of c.args.stamp c.loop-keep.keep c.self.inside.buffer.items c.unwrap-entry.result.now c.self.invariant read here))

pub returns-clause-below : goal.returns-clause-below
returns-clause-below g c =
    rw (← c.self.view_is) (take-below g.E.Stamped.stamp_of c.args.stamp c.loop-keep.keep c.self.inside.buffer.items c.loop-keep.invariant.within c.loop-keep.invariant.front (λ i d le lt. absurd (omega (arith, le, lt, c.loop-keep-test.false, c.len-len.ensures))))
