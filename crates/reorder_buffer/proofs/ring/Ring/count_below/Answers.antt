use Rattle.std.proofs.Common.{rules, ◌≡◌, ◌-◌, ◌<◌, ◌≤◌, Some, slice_get, arith}
use Rattle.reorder_buffer.proofs.Stamps.{take-below, take-below_at, past_more}
use Rattle.reorder_buffer.proofs.ring.Ring.count_below.Goals as goal

pub returns-then-stamp-clause-below : goal.returns-then-stamp-clause-below
returns-then-stamp-clause-below g c =
    let read : slice_get c.self.inside.buffer.items (c.loop-keep.keep - 1) ≡ Some c.unwrap-entry.result.now = search rules in
    let here : g.E.Stamped.stamp_of c.unwrap-entry.result.now < c.args.stamp = omega (arith, c.stamp.ensures) in
    rw (← c.self.view_is) (take-below_at g.E.Stamped.stamp_of c.args.stamp c.loop-keep.keep c.self.inside.buffer.items c.unwrap-entry.result.now c.self.invariant c.loop-keep-test.true c.loop-keep.invariant.within read here c.loop-keep.invariant.past)

pub loop-keep-preserved : goal.loop-keep-preserved
loop-keep-preserved g c =
    let read : slice_get c.self.inside.buffer.items (c.loop-keep.keep - 1) ≡ Some c.unwrap-entry.result.now = search rules in
    let here : c.args.stamp ≤ g.E.Stamped.stamp_of c.unwrap-entry.result.now = omega (arith, c.stamp.ensures) in
    record {
      within = omega (arith, c.loop-keep.invariant.within);
      past = past_more g.E.Stamped.stamp_of c.args.stamp c.loop-keep.keep c.self.inside.buffer.items c.unwrap-entry.result.now read here c.loop-keep.invariant.past;
    }

pub returns-clause-below : goal.returns-clause-below
returns-clause-below g c =
    rw (← c.self.view_is) (take-below g.E.Stamped.stamp_of c.args.stamp c.loop-keep.keep c.self.inside.buffer.items c.loop-keep.invariant.within (λ i d lt. absurd (omega (arith, c.loop-keep-test.false))) c.loop-keep.invariant.past)
