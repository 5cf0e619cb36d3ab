use Rattle.std.proofs.Common.{sym, ◌∙◌}
use Rattle.std.proofs.lemmas.Bool.{and_parts}
use Rattle.word_mask.specs.Mask.{has}
use Rattle.issue_queue.proofs.selecting.next_place.Goals as goal

pub returns-then-after-eq0-clause-set : goal.returns-then-after-eq0-clause-set
returns-then-after-eq0-clause-set c = c.lowest.ensures.set

pub returns-else-after-eq0-clause-set : goal.returns-else-after-eq0-clause-set
returns-else-after-eq0-clause-set c =
    let at = c.lowest-else-after-eq0.result in
    (and_parts (has c.args.word at) (has c.args.above at) (sym (c.both-after.ensures at) ∙ c.lowest-else-after-eq0.ensures.set)).0
