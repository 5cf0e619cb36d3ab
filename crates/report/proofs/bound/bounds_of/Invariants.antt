use Rattle.std.proofs.Common.{◌≡◌, ◌++◌, drop, string_bytes}
use Rattle.report.specs.Bounds.{bounds_text}
use Rattle.report.proofs.bound.bounds_of.Given as goal

-- the lines so far and those of the rest are all
abbrev pub invariant-loop-number : goal.invariant-loop-number
invariant-loop-number g l = string_bytes l.text ++ bounds_text l.number (drop l.number l.jobs) ≡ bounds_text 0 l.jobs
