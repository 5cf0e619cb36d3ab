use Rattle.std.proofs.Common.{arith, []}
use Rattle.checkpoint_book.specs.Views.{idle_view, passes_below}
use Rattle.checkpoint_book.proofs.Kept.{sits}
use Rattle.checkpoint_book.proofs.lock.Lock.empty_seat.Goals as goal

pub load_new_seat-requires : goal.load_new_seat-requires
load_new_seat-requires c =
    let key = c.args.self.now.table.shared.key in
    let sized = c.args.self.now.sized.0 in
    (omega arith, sits key c.args.self.now.table.shared.table_id.slots (idle_view key.opening.value (passes_below key.passes), []))
