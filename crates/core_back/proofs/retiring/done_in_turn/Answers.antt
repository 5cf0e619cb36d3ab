use Rattle.core_back.proofs.DoneTurns.{done_first, done_next, done_bits, done_clear, done_set}
use Rattle.core_back.proofs.MachineIssues.{numbered}
use Rattle.core_back.proofs.retiring.done_in_turn.Goals as goal

pub loop-number-init : goal.loop-number-init
loop-number-init g c = done_first c.args.machine.now

pub loop-number-preserved : goal.loop-number-preserved
loop-number-preserved g c =
    let context = numbered c.new.result c.unwrap-context.result c.loop-number.number c.new.ensures.value c.unwrap-context.ensures in
    done_next c.args.machine.now c.loop-number.number c.loop-number.word c.push-word.result c.unwrap-context.result c.is_head_done.result c.loop-number.invariant context c.is_head_done.ensures c.push-word.ensures

pub returns-clause-none : goal.returns-clause-none
returns-clause-none g c t d lt ld at =
    done_clear c.args.machine.now c.args.cycle c.loop-number.word c.turn_eight.result (done_bits c.args.machine.now c.loop-number.number c.loop-number.word c.loop-number.auto.number-end c.loop-number-test.false c.loop-number.invariant) c.turn_eight.ensures.turned t d lt ld at

pub returns-clause-some : goal.returns-clause-some
returns-clause-some g c t d lt ld at =
    done_set c.args.machine.now c.args.cycle c.loop-number.word c.turn_eight.result (done_bits c.args.machine.now c.loop-number.number c.loop-number.word c.loop-number.auto.number-end c.loop-number-test.false c.loop-number.invariant) c.turn_eight.ensures.turned t d lt ld at
