use Rattle.std.proofs.Common.{refl}
use Rattle.issue_queue.proofs.Masks.{slot_put}
use Rattle.issue_queue.proofs.slots.Slots.put.Goals as goal

pub returns-clause-slots : goal.returns-clause-slots
returns-clause-slots c = slot_put c.args.self.now _ c.args.place c.new.result c.args.reading.now c.new.ensures c.write.ensures refl c.requires.let_go c.add_sources.ensures c.requires.free c.requires.alike
