use Rattle.std.proofs.Common.{refl}
use Rattle.issue_queue.proofs.Masks.{slot_marked}
use Rattle.issue_queue.proofs.slots.Slots.set_speculative.Goals as goal

pub returns-clause-slots : goal.returns-clause-slots
returns-clause-slots c = slot_marked c.args.self.now _ c.args.place c.args.speculative c.set_speculative.ensures.wide c.requires c.set_speculative.ensures.entries refl refl
