use Rattle.std.proofs.Common.{arith}
use Rattle.core_view.proofs.ByteNumbers.{lowest_of_few, lowest_of_many}
use Rattle.core_view.proofs.span.lowest.Goals as goal

pub returns-then-count-lt8 : goal.returns-then-count-lt8
returns-then-count-lt8 c = lowest_of_few c.args.value c.args.count c.if-count-lt8.true

pub returns-else-count-lt8 : goal.returns-else-count-lt8
returns-else-count-lt8 c = lowest_of_many c.args.value c.args.count (omega arith) c.if-count-lt8.false
