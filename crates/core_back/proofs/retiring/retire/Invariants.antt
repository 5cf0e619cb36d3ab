use Rattle.std.proofs.Common.{◌≡◌, ◌+◌, ◌-◌, ◌*◌, ◌<◌, ◌≤◌, [], length}
use Rattle.core_back.specs.Machine.{IsAlike, in_flight}
use Rattle.core_back.proofs.RetireTurns.{AllLive}
use Rattle.core_back.proofs.RetireSteps.{AtTurn}
use Rattle.core_back.proofs.LeftTurns.{AreLeft}
use Rattle.core_back.specs.Learned.{HasLearned}
use Rattle.core_back.proofs.retiring.retire.Given as goal

abbrev pub invariant-loop-waiting : goal.invariant-loop-waiting
invariant-loop-waiting g l = record {
  alike : IsAlike l.fn.machine l.machine;
  idle : l.machine.names ≡ [];
  room : length (g.L.Listing.items l.retired) + l.left ≤ 16;
  waiting : AreLeft l.fn.machine l.waiting l.turn;
  fits : l.waiting < 18446744073709551616;
  turns : AtTurn l.fn.machine.view.profile.retire_width l.turn l.fn.machine l.machine l.left (g.L.Listing.items l.retired);
  live : AllLive l.fn.machine;
  first : l.first ≡ l.fn.machine.view.cycle;
  dropped : l.dropped + length (g.L.Listing.items l.retired) + in_flight l.machine ≡ in_flight l.fn.machine;
  width : l.left ≤ 16;
  bound : l.dropped + l.left * 80 ≤ 1280 + l.turn * 80;
  trained : HasLearned g.G.Guess.after_learn l.fn.machine l.machine (g.L.Listing.items l.fn.retired) (g.L.Listing.items l.retired) l.fn.guess l.guess;
}

abbrev pub decreases-loop-waiting : goal.decreases-loop-waiting
decreases-loop-waiting g l = l.left + (64 - l.turn)
