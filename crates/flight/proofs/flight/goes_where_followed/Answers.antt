use Rattle.std.proofs.lemmas.Bool.{eqb-true}
use Rattle.flight.proofs.flight.goes_where_followed.Goals as goal

pub returns : goal.returns
returns c same = eqb-true c.args.entry.now.followed c.args.step.now.next same
