use Rattle.issue_queue.specs.Entry.{is_ready}
use Rattle.issue_queue.proofs.Masks.{mask_flagged}
use Rattle.issue_queue.proofs.places.Places.ready_loads.Goals as goal

pub returns : goal.returns
returns c =
    let b = c.args.self.now in
    mask_flagged is_ready (λ e. e.load) b.valid b.slots c.ready.result c.loads.result c.both.result c.both.ensures c.loads.ensures c.ready.ensures
