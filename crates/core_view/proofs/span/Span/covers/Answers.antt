use Rattle.std.proofs.Common.{arith}
use Rattle.std.proofs.lemmas.Bool.Decides.{nat_tests}
use Rattle.core_view.proofs.SpanReads.{covers_each}
use Rattle.core_view.proofs.span.Span.covers.Goals as goal

pub returns-then-other-self-clause-each : goal.returns-then-other-self-clause-each
returns-then-other-self-clause-each c = covers_each c.args.self c.args.other _ (grind (arith, nat_tests))

pub returns-clause-each : goal.returns-clause-each
returns-clause-each c = covers_each c.args.self c.args.other _ (grind (arith, nat_tests))
