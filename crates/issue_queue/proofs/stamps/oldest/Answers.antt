use Rattle.std.proofs.Common.{ap, ◌∙◌}
use Rattle.issue_queue.specs.declared.entry.Queued.{Queued}
use Rattle.issue_queue.proofs.Oldest.{least_so_far, least_of_all}
use Rattle.issue_queue.proofs.stamps.oldest.Goals as goal

pub loop-left-preserved : goal.loop-left-preserved
loop-left-preserved c =
    rw (c.min-least.ensures, c.stamp.ensures ∙ ap (λ (e : Queued). e.stamp) c.at-in-loop-left.ensures)
    (least_so_far c.args.slots.now c.args.word c.loop-left.left c.cleared-left-in-loop-left.result c.loop-left.least c.lowest-place.result c.lowest-place.ensures.set c.cleared-left-in-loop-left.ensures.bits c.loop-left.invariant)

pub returns-clause-least : goal.returns-clause-least
returns-clause-least c = least_of_all c.args.slots.now c.args.word c.loop-left.left c.loop-left.least c.loop-left-test.false c.loop-left.invariant
