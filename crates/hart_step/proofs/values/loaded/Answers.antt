use Rattle.std.proofs.Common.{rules}
use Rattle.hart_step.proofs.values.loaded.Goals as goal

pub returns-in-Half : goal.returns-in-Half
returns-in-Half c = search rules

pub returns-in-ByteUnsigned : goal.returns-in-ByteUnsigned
returns-in-ByteUnsigned c = rw c.in-ByteUnsigned.is
