use Rattle.std.proofs.Common.{ℕ, ◌-◌, ◌<◌, ◌≤◌, length, get_or}
use Rattle.reorder_buffer.proofs.ring.Ring.count_past.Given as goal

abbrev pub invariant-loop-keep : goal.invariant-loop-keep
invariant-loop-keep g l = record {
  within : l.keep ≤ length l.self-inside.buffer.items;
  front : (i : ℕ) (d : g.row.E.Denot) → i < l.keep → g.E.Stamped.stamp_of (get_or l.self-inside.buffer.items i d) < l.stamp;
}

abbrev pub decreases-loop-keep : goal.decreases-loop-keep
decreases-loop-keep g l = length l.self-inside.buffer.items - l.keep
