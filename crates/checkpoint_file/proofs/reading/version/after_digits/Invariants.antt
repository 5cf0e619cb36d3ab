use Rattle.std.proofs.Common.{length}
use Rattle.checkpoint_file.specs.Versions.{HasDigits}
use Rattle.checkpoint_file.proofs.reading.version.after_digits.Given as goal

abbrev pub invariant-loop-rest : goal.invariant-loop-rest
invariant-loop-rest l = HasDigits l.bytes l.rest

abbrev pub decreases-loop-rest : goal.decreases-loop-rest
decreases-loop-rest l = length l.rest
