use Rattle.std.proofs.Common.{arith}
use Rattle.std.specs.Prelude.{slice_index}
use Rattle.paged_memory.proofs.Numbers.{number_at-halves}
use Rattle.paged_memory.proofs.page.Page.wide_number.Goals as goal

pub returns-in-Double : goal.returns-in-Double
returns-in-Double c =
    let halves = number_at-halves (slice_index c.args.self.now.bytes) c.args.offset in
    rw c.in-Double.is (omega (arith, halves, c.word.ensures, c.word-in-Double.ensures, c.from-low.ensures, c.from.ensures, c.word.type_inv, c.word-in-Double.type_inv))
