use Rattle.core_back.proofs.DoneTurns.{AreDoneBits}
use Rattle.core_back.proofs.retiring.done_in_turn.Given as goal

abbrev pub invariant-loop-number : goal.invariant-loop-number
invariant-loop-number g l = AreDoneBits l.machine l.number l.word
