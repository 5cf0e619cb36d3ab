use Rattle.std.proofs.Common.{◌*◌, ◌/◌, ◌%◌, ◌^◌}
use Rattle.bit_vector.proofs.Bits.{eight-turned, eight-above}
use Rattle.bit_vector.proofs.slots.turn_eight.Goals as goal

pub returns-clause-turned : goal.returns-clause-turned
returns-clause-turned c i low = eight-turned c.args.word c.args.base i c.requires low

pub returns-clause-clear : goal.returns-clause-clear
returns-clause-clear c i high = eight-above (c.args.word % 256 * 257 / 2 ^ c.args.base) i high
