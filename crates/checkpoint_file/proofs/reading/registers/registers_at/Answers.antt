use Rattle.std.proofs.Common.{◌+◌, rules, arith}
use Rattle.checkpoint_file.proofs.RegisterLemmas.{carried, first_register, last, one_more}
use Rattle.checkpoint_file.proofs.reading.registers.registers_at.Goals as goal

pub returns-in_err-next-clause-only : goal.returns-in_err-next-clause-only
returns-in_err-next-clause-only c rest h =
    let b = first_register c.loop-number.number c.loop-number.rest.now rest (omega arith) (c.loop-number.invariant.on rest h) in
    absurd (c.in_err-next.ensures.only b.value b.next b.fits b.parts)

pub loop-number-preserved : goal.loop-number-preserved
loop-number-preserved c =
    let number = c.loop-number.number in
    let here = c.loop-number.rest.now in
    let next = c.in_ok-next.next.now in
    record {
      back = λ rest h. c.loop-number.invariant.back rest (one_more number c.in_ok-next.field-0-0 here next rest (omega arith) (search rules) c.in_ok-next.ensures.found h);
      on = λ rest h.
          let b = first_register number here rest (omega arith) (c.loop-number.invariant.on rest h) in
          carried (number + 1) next b.next rest (c.in_ok-next.ensures.only b.value b.next b.fits b.parts).1 b.others;
    }

pub returns-clause-only : goal.returns-clause-only
returns-clause-only c rest h = last c.loop-number.number c.loop-number.rest.now rest (omega arith) (c.loop-number.invariant.on rest h)
