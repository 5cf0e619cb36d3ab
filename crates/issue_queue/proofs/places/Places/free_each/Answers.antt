use Rattle.std.proofs.Common.{rules, true, refl}
use Rattle.issue_queue.proofs.Masks.{cut_next, cut_taken, cut_word}
use Rattle.issue_queue.proofs.places.Places.free_each.Goals as goal

pub loop-left-init : goal.loop-left-init
loop-left-init c = search rules

pub free-requires-clause-set : goal.free-requires-clause-set
free-requires-clause-set c = cut_taken c.args.self.now c.loop-left.self c.args.word (λ e. true) c.loop-left.left c.lowest-place.result c.requires.taken c.lowest-place.ensures.set c.loop-left.invariant

pub loop-left-preserved : goal.loop-left-preserved
loop-left-preserved c =
    cut_next c.args.self.now c.loop-left.self c.free.new.self c.args.word (λ e. true) c.loop-left.left c.cleared-left.result c.lowest-place.result c.requires.taken c.loop-left.invariant c.free.ensures.step
    c.free.ensures.valid c.free.ensures.slots c.lowest-place.ensures.set c.cleared-left.ensures.bits refl

pub returns-clause-valid : goal.returns-clause-valid
returns-clause-valid c = cut_word c.args.self.now c.loop-left.self c.args.word c.loop-left.left c.loop-left-test.false c.loop-left.invariant
