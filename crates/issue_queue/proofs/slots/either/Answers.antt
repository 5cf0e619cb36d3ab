use Rattle.issue_queue.proofs.Masks.{has_either}
use Rattle.issue_queue.proofs.slots.either.Goals as goal

pub returns : goal.returns
returns c = has_either c.args.left c.args.right
