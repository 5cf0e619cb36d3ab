use Rattle.issue_queue.proofs.Masks.{mask_ready}
use Rattle.issue_queue.proofs.places.Places.ready.Goals as goal

pub returns : goal.returns
returns c =
    let b = c.args.self.now in
    mask_ready b.valid b.slots b.supplied c.held.result c.without.result c.without.ensures c.held.ensures c.requires.supplied
