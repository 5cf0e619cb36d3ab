use Rattle.std.proofs.lemmas.Nat.{one_shl, and_mask}
use Rattle.rv64_decode.proofs.operands.field.Goals as goal

pub returns : goal.returns
returns c = rw (one_shl c.args.count 32 c.requires.count) (and_mask _ _)
