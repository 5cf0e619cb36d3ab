use Rattle.std.proofs.Common.{arith}
use Rattle.issue_queue.proofs.Entered.{entry_written}
use Rattle.issue_queue.proofs.entries.Entries.write.Goals as goal

pub returns : goal.returns
returns c =
    entry_written c.args.self.now c.args.place c.args.entry c.added-self.result c.added-self-2.result
    (record { stamps = omega arith; contexts = omega arith; firsts = omega arith; seconds = omega arith; speculative = omega arith })
    c.requires.bound c.requires.unguessed c.requires.no_load c.added-self.ensures c.added-self-2.ensures
