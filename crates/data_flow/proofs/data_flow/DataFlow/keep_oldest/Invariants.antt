use Rattle.std.proofs.Common.{◌-◌, ◌+◌}
use Rattle.data_flow.proofs.Cuts.{IsKept}
use Rattle.data_flow.proofs.data_flow.DataFlow.keep_oldest.Given as goal

abbrev pub invariant-loop-done : goal.invariant-loop-done
invariant-loop-done g l = IsKept l.fn.self l.self l.context (l.len + l.left - l._done)
