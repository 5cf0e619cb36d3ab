use Rattle.std.proofs.Common.{false, ap, arith, ◌∙◌}
use Rattle.issue_queue.specs.Views.{as_entry, name_of}
use Rattle.issue_queue.proofs.Masks.{none_named, one_named, all_named}
use Rattle.issue_queue.proofs.selecting.list_best.Goals as goal

pub loop-candidate-init : goal.loop-candidate-init
loop-candidate-init c = none_named c.args.slots.now c.args.best.now c.args.names.now.items c.requires.empty

pub at-requires : goal.at-requires
at-requires c = c.requires.places c.loop-candidate.candidate-index _ c.loop-candidate-test.true

pub push-requires : goal.push-requires
push-requires c = (omega arith, omega (arith, c.requires.short, c.loop-candidate-test.true, c.loop-candidate.invariant.count))

pub assigned-word-requires : goal.assigned-word-requires
assigned-word-requires c = c.requires.places c.loop-candidate.candidate-index _ c.loop-candidate-test.true

pub loop-candidate-preserved : goal.loop-candidate-preserved
loop-candidate-preserved c =
    one_named c.args.slots.now c.args.best.now c.loop-candidate.candidate-index c.loop-candidate.word c.assigned-word.result _ c.loop-candidate.names.items c.push.new.self.items c.name.result c.loop-candidate-test.true
    (c.name.ensures ∙ ap (λ e. name_of (as_entry false e)) c.at.ensures) c.push.ensures.items c.assigned-word.ensures c.loop-candidate.invariant

pub returns-clause-word : goal.returns-clause-word
returns-clause-word c = (all_named c.args.slots.now c.args.best.now c.loop-candidate.candidate-index c.loop-candidate.word c.loop-candidate.names.items c.loop-candidate-test.false c.loop-candidate.invariant).0

pub returns-clause-names : goal.returns-clause-names
returns-clause-names c = (all_named c.args.slots.now c.args.best.now c.loop-candidate.candidate-index c.loop-candidate.word c.loop-candidate.names.items c.loop-candidate-test.false c.loop-candidate.invariant).1
