use Rattle.issue_queue.proofs.Oldest.{none_older, older_of_all}
use Rattle.issue_queue.proofs.stamps.older.Goals as goal

pub loop-left-init : goal.loop-left-init
loop-left-init c = none_older c.args.slots.now c.args.word c.args.stamp

pub returns : goal.returns
returns c = older_of_all c.args.slots.now c.args.word c.loop-left.left c.loop-left.older c.args.stamp c.loop-left-test.false c.loop-left.invariant
