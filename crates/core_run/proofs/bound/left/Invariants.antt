use Rattle.std.proofs.Common.{◌≡◌, ◌*◌, ◌≤◌, ◌^◌}
use Rattle.core_run.proofs.LeftBefore.{left_before}
use Rattle.core_run.proofs.bound.left.Given as goal

-- the sum over the contexts so far, each at most 2^40
abbrev pub invariant-loop-place : goal.invariant-loop-place
invariant-loop-place l = record {
  is : l.sum ≡ left_before l.place l.starts l.targets;
  few : l.sum ≤ l.place * 2 ^ 40;
}
