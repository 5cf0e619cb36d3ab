use Rattle.std.proofs.Common.{arith, sym, subst}
use Rattle.atomic_table.specs.Table.{Splits}
use Rattle.checkpoint_book.specs.Views.{first_view, rest_view}
use Rattle.checkpoint_book.specs.OneHistory.{HasOneHistory}
use Rattle.checkpoint_book.specs.Steps.{SeatState}
use Rattle.checkpoint_book.proofs.Kept.{splits}
use Rattle.checkpoint_book.proofs.lock.Lock.split_off.Goals as goal

pub split_seat-requires : goal.split_seat-requires
split_seat-requires c =
    let key = c.args.self.now.table.shared.key in
    let sized = c.args.self.now.sized.0 in (
      c.requires.lock,
      omega arith,
      subst (λ (z : SeatState). Splits (HasOneHistory key) c.args.rest.now.place.id z.0 (rest_view z.0) (first_view z.0)) (sym c.requires.state) (splits key c.args.rest.now.place.id key.opening.value c.args.last),
    )
