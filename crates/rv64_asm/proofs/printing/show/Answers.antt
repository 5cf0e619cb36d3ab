use Rattle.std.proofs.Common.{arith}
use Rattle.rv64_asm.proofs.Reread.{rereads}
use Rattle.rv64_asm.proofs.printing.show.Goals as goal

pub returns-clause-rereads : goal.returns-clause-rereads
returns-clause-rereads g c = rw c.in_ok-text.ensures.text (rereads c.args.insn.now c.args.pc (omega (arith, c.ranges.pc)) c.in_ok-text.ensures.ranged)
