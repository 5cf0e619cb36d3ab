use Rattle.std.specs.Int.{w64}
use Rattle.std.proofs.lemmas.Nat.Bits.{bit_at_set_same, bit_at_set_other}
use Rattle.bit_vector.proofs.Bits.{bit-kept}
use Rattle.bit_vector.proofs.slots.set_slot.Goals as goal

pub returns-clause-set : goal.returns-clause-set
returns-clause-set c = bit_at_set_same w64 c.args.word c.args.slot c.requires

pub returns-clause-others : goal.returns-clause-others
returns-clause-others c i h = bit-kept c.args.word _ i h

pub returns-clause-unchanged : goal.returns-clause-unchanged
returns-clause-unchanged c i other = bit_at_set_other w64 c.args.word c.args.slot c.requires i other
