use Rattle.std.proofs.Common.{◌≡◌, take, map}
use Rattle.core_back.specs.Shown.{marked_among}
use Rattle.core_back.proofs.selection.Selection.mark.Given as goal

abbrev pub invariant-loop-place : goal.invariant-loop-place
invariant-loop-place g l = l.flow ≡ record l.fn.flow { waiters = map (marked_among (take l.place l.self) l.held) l.fn.flow.waiters }
