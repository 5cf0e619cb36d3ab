use Rattle.std.proofs.Common.{◌≡◌, ◌+◌, ◌≤◌, ◌++◌, List, length}
use Rattle.core_view.specs.declared.note.Issue.{Issue}
use Rattle.core_back.specs.Issued.{AreIssued}
use Rattle.lawful_cycle.specs.Queries.{IsLagBy}
use Rattle.core_back.specs.Issuing.{IsIssuing}
use Rattle.core_back.specs.Machine.{Machine, IsAlike, in_flight}
use Rattle.core_back.specs.Selected.{IsChosen}
use Rattle.core_back.proofs.issuing.issue_anew.Given as goal

abbrev pub invariant-loop-machine : goal.invariant-loop-machine
invariant-loop-machine g l = record {
  alike : IsAlike l.fn.machine l.machine;
  first : Machine;
  selected : first ≡ record l.fn.machine { names = first.names };
  choice : IsChosen (g.O.Order.key_of l.order) l.width l.fn.machine.view first.names;
  more : List Issue;
  run : AreIssued (IsLagBy (g.D.Delay.may_answer l.fn.delay) g.D.Delay.answer g.D.Delay.after_delay) l.fn.delay l.delay first l.machine more;
  issuing : IsIssuing (g.O.Order.key_of l.order) (g.D.Delay.may_answer l.fn.delay) l.width first l.machine more;
  listed : g.L.Listing.items l.issued ≡ g.L.Listing.items l.fn.issued ++ more;
  room : length (g.L.Listing.items l.issued) + length l.machine.names ≤ 8;
  flights : in_flight l.machine ≡ in_flight l.fn.machine;
  keeps : g.D.Delay.may_answer l.delay ≡ g.D.Delay.may_answer l.fn.delay;
}

abbrev pub decreases-loop-machine : goal.decreases-loop-machine
decreases-loop-machine g l = length l.machine.names
