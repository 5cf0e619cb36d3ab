use Rattle.std.proofs.Common.{◌≡◌, ℕ, ◌+◌, ◌-◌, false, sym, ap, subst, ◌∙◌, arith}
use Rattle.std.specs.Prelude.{◌==◌, not, ◌&&◌, if◌then◌else◌}
use Rattle.word_mask.specs.Mask.{has}
use Rattle.core_back.specs.Machine.{with_contexts, completed_context}
use Rattle.core_back.proofs.ContextByContext.{mapped_all, mapped_alike}
use Rattle.core_back.proofs.CompletedCount.{complete_lawful}
use Rattle.core_back.proofs.CompletedTurns.{IsTurned, word_told, not_last, is_last, turned_first, turned_next, turned_all, turned_number, less_left, none_left, has_none, total_most, in_flight_most}
use Rattle.core_back.proofs.completing.complete.Goals as goal

pub loop-left-init : goal.loop-left-init
loop-left-init g c = turned_first c.args.machine.now c.hinted-left.result c.cycle-cycle.ensures.contexts c.hinted-left.ensures.known c.hinted-left.ensures.none

pub overflow_add-completed : goal.overflow_add-completed
overflow_add-completed g c = omega (arith, c.loop-left.invariant.number, total_most c.args.machine.now.view.cycle c.args.machine.now c.cycle-cycle.ensures.few, c.complete_next-turn.ensures.turn.one)

pub complete_next-turn-requires-clause-few : goal.complete_next-turn-requires-clause-few
complete_next-turn-requires-clause-few g c = omega (arith, c.loop-left.invariant.fewer, in_flight_most c.args.machine.now c.cycle-cycle.ensures.contexts c.cycle-cycle.ensures.few)

pub loop-left-smaller : goal.loop-left-smaller
loop-left-smaller g c =
    let last = c.complete_next-turn.result.last in
    let word = word_told c.loop-left.left c.removed-left.result c.first_context-context.result last c.first_context-context.ensures
    (subst (λ i. (p : ℕ) → has c.removed-left.result p ≡ (if (p == i) && last then false else has c.loop-left.left p)) c.index.ensures.value c.removed-left.ensures) in
    less_left c.args.machine.now c.loop-left.machine c.complete_next-turn.new.machine c.loop-left.left c.removed-left.result c.first_context-context.result c.loop-left.completed c.loop-left.cut c.complete_next-turn.result.completed (c.complete_next-turn.result.cut - c.loop-left.cut) (not last)
    c.loop-left.invariant c.complete_next-turn.ensures.turn c.first_context-context.ensures word (λ on. c.complete_next-turn.ensures.more (not_last last on))

pub loop-left-preserved : goal.loop-left-preserved
loop-left-preserved g c =
    let last = c.complete_next-turn.result.last in
    let word = word_told c.loop-left.left c.removed-left.result c.first_context-context.result last c.first_context-context.ensures
    (subst (λ i. (p : ℕ) → has c.removed-left.result p ≡ (if (p == i) && last then false else has c.loop-left.left p)) c.index.ensures.value c.removed-left.ensures) in
    let cut : c.loop-left.cut + (c.complete_next-turn.result.cut - c.loop-left.cut) ≡ c.complete_next-turn.result.cut = omega (arith, c.complete_next-turn.ensures.counted) in
    subst (IsTurned c.args.machine.now c.complete_next-turn.new.machine c.removed-left.result (c.loop-left.completed + c.complete_next-turn.result.completed)) cut
    (turned_next c.args.machine.now c.loop-left.machine c.complete_next-turn.new.machine c.loop-left.left c.removed-left.result c.first_context-context.result c.loop-left.completed c.loop-left.cut c.complete_next-turn.result.completed (c.complete_next-turn.result.cut - c.loop-left.cut) (not last)
    c.loop-left.invariant c.complete_next-turn.ensures.turn c.first_context-context.ensures word
    (λ none. none_left c.loop-left.machine c.complete_next-turn.new.machine c.first_context-context.result c.complete_next-turn.result.completed (c.complete_next-turn.result.cut - c.loop-left.cut) c.complete_next-turn.ensures.turn (c.complete_next-turn.ensures.none (is_last last none))))

pub returns-clause-completed : goal.returns-clause-completed
returns-clause-completed g c =
    turned_all c.args.machine.now c.loop-left.machine c.loop-left.left c.loop-left.completed c.loop-left.cut c.cycle-cycle.ensures.contexts c.loop-left.invariant (λ d. ap (λ w. has w d) c.loop-left-test.false ∙ has_none d)

pub returns-clause-alike : goal.returns-clause-alike
returns-clause-alike g c =
    mapped_alike c.args.machine.now c.loop-left.machine 8 (returns-clause-completed g c ∙ ap (with_contexts c.args.machine.now) (sym (mapped_all (completed_context c.args.machine.now.view.cycle) 8 c.args.machine.now.view.contexts (omega (arith, c.cycle-cycle.ensures.contexts)))))

pub returns-clause-bound : goal.returns-clause-bound
returns-clause-bound g c = omega (arith, c.loop-left.invariant.number, total_most c.args.machine.now.view.cycle c.args.machine.now c.cycle-cycle.ensures.few)

pub returns-clause-cut_bound : goal.returns-clause-cut_bound
returns-clause-cut_bound g c = omega (arith, c.loop-left.invariant.fewer, in_flight_most c.args.machine.now c.cycle-cycle.ensures.contexts c.cycle-cycle.ensures.few)

pub returns-clause-lawful : goal.returns-clause-lawful
returns-clause-lawful g c =
    complete_lawful c.args.machine.now c.loop-left.machine c.loop-left.completed c.cycle-cycle.ensures.contexts (returns-clause-completed g c)
    (turned_number c.args.machine.now c.loop-left.machine c.loop-left.left c.loop-left.completed c.loop-left.cut c.loop-left.invariant (λ d. ap (λ w. has w d) c.loop-left-test.false ∙ has_none d))
