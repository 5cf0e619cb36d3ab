use Rattle.std.specs.Int.{w64}
use Rattle.std.proofs.lemmas.Nat.Bits.{bit_at_clear_same, bit_at_clear_other}
use Rattle.bit_vector.proofs.slots.clear_slot.Goals as goal

pub returns-clause-clear : goal.returns-clause-clear
returns-clause-clear c = bit_at_clear_same w64 c.args.word c.args.slot c.requires

pub returns-clause-others : goal.returns-clause-others
returns-clause-others c i low other = bit_at_clear_other w64 c.args.word c.args.slot c.requires i low other
