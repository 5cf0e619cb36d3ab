use denote.Param.Send.{sendable}
use Rattle.std.proofs.Crossing.{crosses}
use Rattle.checkpoint_book.proofs.Crossing.{pass_sends, shared_sends, book_syncs}
use Rattle.book_tests.proofs.books.merge_in_threads.Goals as goal

pub join-requires-send-F : goal.join-requires-send-F
join-requires-send-F g c = search (sendable, crosses, pass_sends, shared_sends, book_syncs) depth 40

pub join-requires-send-A : goal.join-requires-send-A
join-requires-send-A g c = search (sendable, crosses, pass_sends, shared_sends, book_syncs) depth 40
