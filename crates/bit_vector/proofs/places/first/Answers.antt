use Rattle.std.proofs.Common.{arith, ap, ◌∙◌, sym}
use Rattle.std.specs.Simd.Lanes.{mask_l}
use Rattle.std.proofs.lemmas.List.{take_all}
use Rattle.bit_vector.proofs.Masks.{mask-first}
use Rattle.bit_vector.proofs.places.first.Goals as goal

pub returns : goal.returns
returns c ms e short = rw e (mask-first ms c.args.count (omega (arith, c.if-count-ge64.false)))

pub returns-then-count-ge64 : goal.returns-then-count-ge64
returns-then-count-ge64 c ms e short = e ∙ ap mask_l (sym (take_all c.args.count ms (omega (arith, c.if-count-ge64.true))))
