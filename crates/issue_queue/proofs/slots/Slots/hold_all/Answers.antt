use Rattle.std.proofs.Common.{refl}
use Rattle.issue_queue.proofs.Held.{slot_held}
use Rattle.issue_queue.proofs.slots.Slots.hold_all.Goals as goal

pub returns-clause-slots : goal.returns-clause-slots
returns-clause-slots c = slot_held c.args.self.now _ c.args.word refl refl c.either-self.ensures
