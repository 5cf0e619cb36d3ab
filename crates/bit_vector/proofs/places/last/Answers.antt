use Rattle.std.proofs.Common.{arith}
use Rattle.bit_vector.proofs.Bits.{last-none, last-within, last-set, last-clear}
use Rattle.bit_vector.proofs.places.last.Goals as goal

pub returns-then-rest-eq0-clause-none : goal.returns-then-rest-eq0-clause-none
returns-then-rest-eq0-clause-none c _ i below = last-none c.args.word c.args.before i c.requires c.if-rest-eq0.true below

pub overflow_sub-result-2 : goal.overflow_sub-result-2
overflow_sub-result-2 c = omega (arith, last-within c.args.word c.args.before c.requires (omega (arith, c.if-before-eq0.false)) (omega (arith, c.if-rest-eq0.false)))

pub returns-clause-set : goal.returns-clause-set
returns-clause-set c = last-set c.args.word c.args.before c.requires (omega (arith, c.if-before-eq0.false)) (omega (arith, c.if-rest-eq0.false))

pub returns-clause-clear : goal.returns-clause-clear
returns-clause-clear c i after below = last-clear c.args.word c.args.before c.requires (omega (arith, c.if-before-eq0.false)) (omega (arith, c.if-rest-eq0.false)) i after below
