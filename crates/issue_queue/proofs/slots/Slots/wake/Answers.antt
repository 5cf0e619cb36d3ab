use Rattle.std.proofs.Common.{refl, arith, ap, set}
use Rattle.issue_queue.proofs.Masks.{slot_woken}
use Rattle.issue_queue.proofs.slots.Slots.wake.Goals as goal

pub returns-clause-slots : goal.returns-clause-slots
returns-clause-slots c = slot_woken c.args.self.now _ c.args.register (omega arith) refl refl (ap (λ i. set c.args.self.now.waiters i 0) c.index-index.ensures.value)
