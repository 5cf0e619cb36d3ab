use Rattle.std.proofs.Common.{ap, ◌∙◌}
use Rattle.issue_queue.specs.declared.entry.Queued.{Queued}
use Rattle.issue_queue.proofs.Gathered.{none_gathered, one_gathered, all_gathered}
use Rattle.issue_queue.proofs.slots.Slots.contexts_of.Goals as goal

pub loop-left-init : goal.loop-left-init
loop-left-init c = none_gathered c.args.self.now c.args.word

pub returns-clause-all : goal.returns-clause-all
returns-clause-all c = all_gathered c.args.self.now c.args.word c.loop-left.left c.loop-left.contexts c.loop-left-test.false c.loop-left.invariant

pub loop-left-preserved : goal.loop-left-preserved
loop-left-preserved c =
    one_gathered c.args.self.now c.args.word c.loop-left.left c.cleared-left.result c.loop-left.contexts c.assigned-contexts.result c.lowest-place.result c.index.result c.lowest-place.ensures.set c.cleared-left.ensures.bits
    (c.index.ensures.value ∙ c.context-context.ensures ∙ ap (λ (e : Queued). e.context) c.at.ensures) c.index.ensures.bound c.assigned-contexts.ensures c.loop-left.invariant

pub returns-clause-known : goal.returns-clause-known
returns-clause-known c = c.loop-left.invariant.known

pub returns-clause-found : goal.returns-clause-found
returns-clause-found c = c.loop-left.invariant.found
