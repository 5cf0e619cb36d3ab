use Rattle.issue_queue.proofs.Held.{ready_let_go, waiting_taken, held_gone, unheld_same, none_less}
use Rattle.std.proofs.Common.{refl}
use Rattle.issue_queue.proofs.places.Places.free_held.Goals as goal

pub free_ready-requires-clause-ready : goal.free_ready-requires-clause-ready
free_ready-requires-clause-ready c =
    ready_let_go c.args.self.now c.release.new.self c.held-held.result c.both-supplied.result c.without-waiting.result c.requires c.held-held.ensures c.both-supplied.ensures c.without-waiting.ensures c.release.ensures.valid c.release.ensures.slots

pub free_each-requires-clause-taken : goal.free_each-requires-clause-taken
free_each-requires-clause-taken c =
    waiting_taken c.args.self.now c.release.new.self c.held-held.result c.both-supplied.result c.without-waiting.result c.requires c.held-held.ensures c.both-supplied.ensures c.without-waiting.ensures c.release.ensures.valid c.release.ensures.slots
    c.free_ready.new.self c.free_ready.ensures.valid c.free_ready.ensures.slots

pub returns-then-waiting-ne0-clause-valid : goal.returns-then-waiting-ne0-clause-valid
returns-then-waiting-ne0-clause-valid c =
    held_gone c.args.self.now c.release.new.self c.held-held.result c.both-supplied.result c.without-waiting.result c.requires c.held-held.ensures c.both-supplied.ensures c.without-waiting.ensures c.release.ensures.valid c.release.ensures.slots
    c.free_ready.new.self c.free_ready.ensures.valid c.free_ready.ensures.slots c.free_each.new.self c.free_each.ensures.valid c.free_each.ensures.slots

pub returns-then-waiting-ne0-clause-slots : goal.returns-then-waiting-ne0-clause-slots
returns-then-waiting-ne0-clause-slots c =
    unheld_same c.args.self.now c.release.new.self c.held-held.result c.both-supplied.result c.without-waiting.result c.requires c.held-held.ensures c.both-supplied.ensures c.without-waiting.ensures c.release.ensures.valid c.release.ensures.slots
    c.free_ready.new.self c.free_ready.ensures.valid c.free_ready.ensures.slots c.free_each.new.self c.free_each.ensures.valid c.free_each.ensures.slots

pub returns-else-waiting-ne0-clause-valid : goal.returns-else-waiting-ne0-clause-valid
returns-else-waiting-ne0-clause-valid c =
    held_gone c.args.self.now c.release.new.self c.held-held.result c.both-supplied.result c.without-waiting.result c.requires c.held-held.ensures c.both-supplied.ensures c.without-waiting.ensures c.release.ensures.valid c.release.ensures.slots
    c.free_ready.new.self c.free_ready.ensures.valid c.free_ready.ensures.slots c.free_ready.new.self (λ p. none_less c.free_ready.new.self.valid c.without-waiting.result p c.if-waiting-ne0.false) (λ p t. refl)

pub returns-else-waiting-ne0-clause-slots : goal.returns-else-waiting-ne0-clause-slots
returns-else-waiting-ne0-clause-slots c =
    unheld_same c.args.self.now c.release.new.self c.held-held.result c.both-supplied.result c.without-waiting.result c.requires c.held-held.ensures c.both-supplied.ensures c.without-waiting.ensures c.release.ensures.valid c.release.ensures.slots
    c.free_ready.new.self c.free_ready.ensures.valid c.free_ready.ensures.slots c.free_ready.new.self (λ p. none_less c.free_ready.new.self.valid c.without-waiting.result p c.if-waiting-ne0.false) (λ p t. refl)
