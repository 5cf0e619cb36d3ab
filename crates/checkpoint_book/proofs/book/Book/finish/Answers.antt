use Rattle.checkpoint_book.proofs.Standing.{each_closed}
use Rattle.checkpoint_book.proofs.book.Book.finish.Goals as goal

pub returns : goal.returns
returns c = each_closed c.args.self c.args.all _ c.finish-n0.ensures c.finish-n1.ensures c.finish-n2.ensures c.finish-n3.ensures c.finish-n4.ensures c.finish-n5.ensures c.finish-n6.ensures c.finish-n7.ensures
