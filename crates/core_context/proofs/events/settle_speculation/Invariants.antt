use Rattle.std.proofs.Common.{◌+◌, ◌-◌, ◌≤◌}
use Rattle.core_context.proofs.Settles.{AreSettled}
use Rattle.core_context.proofs.events.settle_speculation.Given as goal

abbrev pub invariant-loop-place : goal.invariant-loop-place
invariant-loop-place g l = record { settled : AreSettled l.fn.flow l.flow l.context l.track.context.flight l.first; low : l.first ≤ l.track.renamed; past : l.first ≤ l.guess + 1; few : l.first ≤ 64 }

abbrev pub decreases-loop-place : goal.decreases-loop-place
decreases-loop-place g l = 64 - l.first
