use Rattle.std.proofs.Common.{◌++◌, ◌+◌, arith, drop, get_or}
use Rattle.checkpoint_file.specs.Contexts.{register_lines}
use Rattle.checkpoint_file.specs.Lines.{register_line}
use Rattle.checkpoint_file.proofs.LineLemmas.{register_step, registers_end}
use Rattle.checkpoint_file.proofs.SkipLemmas.{next_line, skip_all, skip_end, skip_more, skip_none}
use Rattle.checkpoint_file.proofs.matching.after_registers.Goals as goal

pub loop-number-init : goal.loop-number-init
loop-number-init c = skip_none _ _

pub returns-in_err-rest-clause-only : goal.returns-in_err-rest-clause-only
returns-in_err-rest-clause-only c rest e =
    let number = c.loop-number.number in
    let registers = c.args.registers.now in
    absurd (c.in_err-rest.ensures.only ((register_lines (number + 1) (drop (number + 1) registers)) ++ rest) (next_line c.args.bytes.now c.loop-number.rest.now (register_line number (get_or registers number 0)) (register_lines number (drop number registers)) (register_lines (number + 1) (drop (number + 1) registers)) (register_lines 1 (drop 1 registers)) rest (register_step c.args.registers.now c.loop-number.number (omega arith)) c.loop-number.invariant e))

pub loop-number-preserved : goal.loop-number-preserved
loop-number-preserved c =
    let number = c.loop-number.number in
    let registers = c.args.registers.now in
    skip_more c.args.bytes.now c.loop-number.rest.now c.in_ok-rest.rest.now (register_line number (get_or registers number 0)) (register_lines number (drop number registers)) (register_lines (number + 1) (drop (number + 1) registers)) (register_lines 1 (drop 1 registers)) (register_step c.args.registers.now c.loop-number.number (omega arith)) c.loop-number.invariant c.in_ok-rest.ensures.found

pub returns-clause-found : goal.returns-clause-found
returns-clause-found c = skip_all c.args.bytes.now c.loop-number.rest.now _ _ (registers_end c.args.registers.now c.loop-number.number (omega arith)) c.loop-number.invariant

pub returns-clause-only : goal.returns-clause-only
returns-clause-only c rest e = skip_end c.args.bytes.now c.loop-number.rest.now _ _ rest (registers_end c.args.registers.now c.loop-number.number (omega arith)) c.loop-number.invariant e
