use Rattle.std.proofs.Common.{arith}
use Rattle.core_view.proofs.ByteNumbers.{above_few, above_many}
use Rattle.core_view.proofs.span.without_lowest.Goals as goal

pub returns-then-count-lt8 : goal.returns-then-count-lt8
returns-then-count-lt8 c = above_few c.args.value c.args.count

pub returns-else-count-lt8 : goal.returns-else-count-lt8
returns-else-count-lt8 c = above_many c.args.value c.args.count (omega arith) c.if-count-lt8.false
