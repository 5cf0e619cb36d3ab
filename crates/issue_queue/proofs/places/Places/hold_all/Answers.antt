use Rattle.std.proofs.Common.{refl}
use Rattle.issue_queue.proofs.Held.{held_in_step}
use Rattle.issue_queue.proofs.places.Places.hold_all.Goals as goal

pub returns-clause-step : goal.returns-clause-step
returns-clause-step c = held_in_step c.args.self.now _ c.args.word refl refl refl c.hold_all.ensures.waiters refl c.hold_all.ensures.slots c.requires.taken c.requires.step
