use Rattle.core_back.specs.First.{AreFirstTracks}
use Rattle.core_back.proofs.first.first_tracks.Given as goal

abbrev pub invariant-loop-number : goal.invariant-loop-number
invariant-loop-number g l = AreFirstTracks l.profile l.marks l.targets l.number l.tracks.items
