use Rattle.issue_queue.proofs.Masks.{freed_in_step, unflagged_elsewhere}
use Rattle.issue_queue.proofs.places.Places.free_ready.Goals as goal

pub returns-clause-step : goal.returns-clause-step
returns-clause-step c = freed_in_step c.args.self.now _ c.args.word c.forget_flags.ensures.slots c.forget_flags.ensures.waiters c.requires.ready c.without-self.ensures c.without-self-2.ensures c.without_each.ensures c.without-self-3.ensures c.requires.step

pub returns-clause-slots : goal.returns-clause-slots
returns-clause-slots c = unflagged_elsewhere c.args.self.now.slots c.forget_flags.new.self c.args.self.now.valid c.without-self.result c.args.word c.forget_flags.ensures.slots c.without-self.ensures
