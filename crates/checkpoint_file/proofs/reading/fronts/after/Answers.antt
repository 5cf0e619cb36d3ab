use Rattle.std.proofs.Common.{rules, ◌≡◌, length, refl}
use Rattle.checkpoint_file.proofs.FrontLemmas.{split_found, split_head}
use Rattle.checkpoint_file.proofs.reading.fronts.after.Goals as goal

pub returns-then-eq-clause-found : goal.returns-then-eq-clause-found
returns-then-eq-clause-found c = split_found c.args.bytes.now c.args.front.now c.in-Some.rest.now c.in-Some.head.now (length c.args.front.now) c.in-Some.ensures.cases (search rules)

pub returns-else-eq-clause-only : goal.returns-else-eq-clause-only
returns-else-eq-clause-only c rest e =
    let same : c.in-Some.head.now ≡ c.args.front.now = split_head c.args.bytes.now c.args.front.now rest c.in-Some.head.now c.in-Some.rest.now (length c.args.front.now) c.in-Some.ensures.cases refl e in
    search rules
