use Rattle.std.proofs.Common.{arith, sym, ap, subst}
use Rattle.atomic_table.specs.Table.{Joins}
use Rattle.checkpoint_book.specs.Views.{joint_view, spent_view}
use Rattle.checkpoint_book.specs.OneHistory.{HasOneHistory}
use Rattle.checkpoint_book.specs.Steps.{SeatState}
use Rattle.checkpoint_book.specs.LockSeats.{calls_of, seat_passes}
use Rattle.checkpoint_book.proofs.Kept.{joins}
use Rattle.checkpoint_book.proofs.lock.Lock.absorb.Goals as goal

pub join_seat-requires : goal.join_seat-requires
join_seat-requires c =
    let key = c.args.self.now.table.shared.key in
    let sized = c.args.self.now.sized.0 in
    let a = c.requires.all in
    let s = c.requires.seat in (
      a.lock,
      s.lock,
      ap (λ (m : SeatState). m.1) s.state,
      omega arith,
      subst (λ (z : SeatState × SeatState). Joins (HasOneHistory key) c.args.all.now.place.id z.0.0 c.args.seat.place.id z.1.0 (joint_view z.0.0 z.1.0) spent_view) (λ i. (sym a.state i, sym s.state i))
          (joins key c.args.all.now.place.id c.args.all.now.place.me.0.opening key.opening.value (seat_passes c.args.all.now) c.args.seat.place.id (c.args.pass, calls_of c.args.seat)),
    )
