-- What may cross threads: a pass, and the marks that it merges and reads.
use denote.Param.Send.{IsSend, IsSync, sendable}
use Rattle.std.proofs.Crossing.{crosses}
use Rattle.std.specs.contracts.alloc.Global as global
use Rattle.std.specs.contracts.impls.GlobalAllocator.TheImpl.{ghosts}
use Rattle.atomic_table.proofs.shared.Seat.TheSendSync as table
use Rattle.atomic_table.proofs.shared.Shared.TheSendSync as words
use Rattle.atomic_table.proofs.send_lease.SendLease.TheSendSync as lease
use Rattle.rv64_asm.specs.contracts.program.Program as program
use Rattle.origin_set.specs.contracts.Origin as origin
use Rattle.hart_step.specs.contracts.hart.Hart as hart
use Rattle.checkpoint.specs.contracts.Mark as mark
use Rattle.checkpoint.specs.contracts.shared.Shared as shared
use Rattle.checkpoint_book.specs.contracts.page.Page as page
use Rattle.checkpoint_book.specs.contracts.lock.Seat as seat
use Rattle.checkpoint_book.specs.contracts.lock.Lock as lock
use Rattle.checkpoint_book.specs.contracts.book.Book as book
use Rattle.checkpoint_book.specs.contracts.book.Pass as pass

program_sends : IsSend (program.the_row global.the_row ghosts)
program_sends = search (sendable, crosses) depth 40 fits 20000

program_syncs : IsSync (program.the_row global.the_row ghosts)
program_syncs = search (sendable, crosses) depth 40 fits 20000

origin_sends : IsSend (origin.the_row global.the_row ghosts)
origin_sends = search (sendable, crosses, program_sends, program_syncs) depth 40 fits 20000

origin_syncs : IsSync (origin.the_row global.the_row ghosts)
origin_syncs = search (sendable, crosses, program_sends, program_syncs) depth 40 fits 20000

hart_sends : IsSend (hart.the_row global.the_row ghosts)
hart_sends = search (sendable, crosses) depth 40 fits 20000

hart_syncs : IsSync (hart.the_row global.the_row ghosts)
hart_syncs = search (sendable, crosses) depth 40 fits 20000

mark_sends : IsSend (mark.the_row global.the_row ghosts)
mark_sends = search (sendable, crosses, origin_sends, origin_syncs, hart_sends, hart_syncs) depth 40 fits 20000

mark_syncs : IsSync (mark.the_row global.the_row ghosts)
mark_syncs = search (sendable, crosses, origin_sends, origin_syncs, hart_sends, hart_syncs) depth 40 fits 20000

pub shared_sends : IsSend shared.the_row
shared_sends = search (sendable, crosses, mark_sends, mark_syncs) depth 40 fits 20000

pub shared_syncs : IsSync shared.the_row
shared_syncs = search (sendable, crosses, mark_sends, mark_syncs) depth 40 fits 20000

page_sends : IsSend page.the_row
page_sends = search (sendable, crosses, shared_sends) depth 40 fits 20000

seat_sends : IsSend seat.the_row
seat_sends = search (sendable, crosses, table.the_send, page_sends) depth 40 fits 20000

pub pass_sends : IsSend pass.the_row
pass_sends = search (sendable, crosses, seat_sends) depth 40 fits 20000

-- ---- what threads may share: a book

lock_syncs : IsSync lock.the_row
lock_syncs = search (sendable, crosses, words.the_sync, lease.the_sync, page_sends) depth 40 fits 20000

pub book_syncs : IsSync book.the_row
book_syncs = search (sendable, crosses, lock_syncs) depth 40 fits 20000
