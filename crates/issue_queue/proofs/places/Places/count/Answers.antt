use Rattle.std.proofs.Common.{refl, arith, rules}
use Rattle.std.specs.Prelude.{slice_index}
use Rattle.issue_queue.proofs.places.Places.count.Goals as goal

pub returns : goal.returns
returns c = rw c.index.ensures.value (slice_index c.args.self.now.contexts c.args.context, search rules, refl, c.requires.contexts c.args.context (omega arith))
