use Rattle.std.proofs.Common.{◌≤◌}
use Rattle.core_context.proofs.HeldLoads.{AreHeldBelow}
use Rattle.core_context.proofs.events.hold_loads.Given as goal

abbrev pub invariant-loop-turn : goal.invariant-loop-turn
invariant-loop-turn g l = record { below : AreHeldBelow l.fn.flow l.flow l.context l.track l.from; past : l._turn ≤ l.from; within : l.from ≤ l.track.renamed }
