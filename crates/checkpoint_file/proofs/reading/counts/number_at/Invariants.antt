use Rattle.std.proofs.Common.{◌≡◌, length}
use Rattle.checkpoint_file.proofs.ReadNumbers.{number_from}
use Rattle.checkpoint_file.proofs.reading.counts.number_at.Given as goal

abbrev pub invariant-loop-rest : goal.invariant-loop-rest
invariant-loop-rest l = number_from l.number l.rest ≡ number_from 0 l.bytes

abbrev pub decreases-loop-rest : goal.decreases-loop-rest
decreases-loop-rest l = length l.rest
