use Rattle.std.proofs.Common.{◌≡◌, ◌+◌, ◌≤◌, length}
use Rattle.core_back.specs.Issuing.{IsIssuingAsked}
use Rattle.core_back.specs.Machine.{IsAlike, in_flight}
use Rattle.lawful_cycle.specs.Steps.{GoesBy, IsTimedAt}
use Rattle.core_back.proofs.issuing.issue.Given as goal

abbrev pub invariant-loop-machine : goal.invariant-loop-machine
invariant-loop-machine g l = record {
  alike : IsAlike l.fn.machine l.machine;
  issuing : IsIssuingAsked (g.O.Order.key_of l.order) (g.D.Delay.may_answer l.fn.delay) l.width l.fn.machine l.machine (g.L.Listing.items l.issued);
  profile : l.width ≡ l.fn.machine.view.profile.issue_width;
  width : l.width ≤ 8;
  flights : in_flight l.machine ≡ in_flight l.fn.machine;
  room : length (g.L.Listing.items l.issued) + length l.machine.names ≤ l.width;
  timed : GoesBy (IsTimedAt g.D.Delay.answer g.D.Delay.after_delay l.fn.machine.view) (g.L.Listing.items l.issued) l.fn.delay l.delay;
}

abbrev pub decreases-loop-machine : goal.decreases-loop-machine
decreases-loop-machine g l = length l.machine.names
