use Rattle.std.proofs.Common.{arith}
use Rattle.std.proofs.lemmas.Bool.Decides.{nat_tests}
use Rattle.core_view.proofs.SpanReads.{read_covered}
use Rattle.core_view.proofs.span.Bytes.part.Goals as goal

pub returns-clause-read : goal.returns-clause-read
returns-clause-read c h bytes = grind (arith, nat_tests, read_covered bytes c.args.self c.args.span)
