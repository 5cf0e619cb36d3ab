use Rattle.std.specs.Prelude.{count_ones}
use Rattle.core_back.proofs.MachineIssues.{IsHeldFrom}
use Rattle.core_back.proofs.machine.Machine.select_clear.Given as goal

abbrev pub invariant-loop-left : goal.invariant-loop-left
invariant-loop-left g l = IsHeldFrom l.fn.self l.self-inside l.left

abbrev pub decreases-loop-left : goal.decreases-loop-left
decreases-loop-left g l = count_ones l.left
