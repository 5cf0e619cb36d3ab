use Rattle.std.proofs.Common.{refl}
use Rattle.checkpoint_file.proofs.FrontLemmas.{split_found, split_head, split_tail}
use Rattle.checkpoint_file.proofs.reading.fronts.split.Goals as goal

pub returns-in-Some-clause-found : goal.returns-in-Some-clause-found
returns-in-Some-clause-found c = split_found c.args.bytes.now c.in-Some.head.now c.in-Some.rest.now c.in-Some.head.now c.args.count c.in-Some.ensures.cases refl

pub returns-in-Some-clause-only : goal.returns-in-Some-clause-only
returns-in-Some-clause-only c front rest len e = (
  split_head c.args.bytes.now front rest c.in-Some.head.now c.in-Some.rest.now c.args.count c.in-Some.ensures.cases len e,
  split_tail c.args.bytes.now front rest c.in-Some.head.now c.in-Some.rest.now c.args.count c.in-Some.ensures.cases len e,
)
