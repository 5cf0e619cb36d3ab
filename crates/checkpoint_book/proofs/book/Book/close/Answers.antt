use Rattle.std.proofs.Common.{arith}
use Rattle.checkpoint_book.proofs.Standing.{stand_for_all, closed}
use Rattle.checkpoint_book.proofs.book.Book.close.Goals as goal

pub finish-requires : goal.finish-requires
finish-requires c = let len = c.len.ensures in let full = c.if-len-self.false in let ok = c.args.passes.ok.0 in stand_for_all c.args.self c.args.passes.items c.gather-all.result c.gather-all.ensures (omega arith)

pub returns-clause-closed : goal.returns-clause-closed
returns-clause-closed c = closed c.args.self c.args.passes.items c.gather-all.result c.finish.result c.gather-all.ensures c.finish.ensures
