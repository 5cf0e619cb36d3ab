use Rattle.std.proofs.Common.{refl}
use Rattle.issue_queue.proofs.Masks.{slot_unflagged}
use Rattle.issue_queue.proofs.slots.Slots.forget_flags.Goals as goal

pub returns-clause-slots : goal.returns-clause-slots
returns-clause-slots c = slot_unflagged c.args.self.now _ c.args.word c.without-self.result c.without-self-2.result refl refl refl c.without-self.ensures c.without-self-2.ensures
