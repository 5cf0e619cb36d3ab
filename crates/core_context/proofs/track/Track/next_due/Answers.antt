use Rattle.std.proofs.Common.{subst}
use Rattle.std.specs.Prelude.{MatchOption}
use Rattle.flight.specs.Flights.{is_due, NoneFrom, IsNext}
use Rattle.core_context.specs.Track.{Track}
use Rattle.core_context.proofs.track.Track.next_due.Goals as goal

pub returns-clause-next : goal.returns-clause-next
returns-clause-next g c = subst (λ (t : Track). MatchOption c.next_due.result (NoneFrom (is_due c.args.cycle) t.context.flight c.args.from) (λ place. IsNext (is_due c.args.cycle) t.context.flight c.args.from place)) c.self.view_is c.next_due.ensures.next
