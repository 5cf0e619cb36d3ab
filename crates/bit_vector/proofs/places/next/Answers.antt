use Rattle.std.proofs.Common.{arith, ◌<◌, ◌/◌, ◌^◌}
use Rattle.bit_vector.proofs.Bits.{trailing-clear, trailing-within, trailing-set, none-from}
use Rattle.bit_vector.proofs.places.next.Goals as goal

pub returns-then-rest-eq0-clause-clear : goal.returns-then-rest-eq0-clause-clear
returns-then-rest-eq0-clause-clear c i after below = none-from c.args.word c.args.from i c.if-rest-eq0.true after

pub returns-clause-within : goal.returns-clause-within
returns-clause-within c = let some : 0 < c.args.word / 2 ^ c.args.from = omega (arith, c.if-rest-eq0.false) in omega (arith, trailing-within c.args.word c.args.from c.ranges.word.fits some)

pub returns-clause-clear : goal.returns-clause-clear
returns-clause-clear c i after below = let some : 0 < c.args.word / 2 ^ c.args.from = omega (arith, c.if-rest-eq0.false) in trailing-clear c.args.word c.args.from i c.ranges.word.fits some after below

pub returns-clause-set : goal.returns-clause-set
returns-clause-set c below = let some : 0 < c.args.word / 2 ^ c.args.from = omega (arith, c.if-rest-eq0.false) in trailing-set c.args.word c.args.from c.ranges.word.fits some
