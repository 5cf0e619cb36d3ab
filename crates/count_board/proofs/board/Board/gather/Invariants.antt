use Rattle.std.proofs.Common.{◌≡◌, [], All}
use Rattle.count_board.specs.Views.{both}
use Rattle.count_board.specs.Seats.{IsSeatOf, gathered}
use Rattle.count_board.proofs.board.Board.gather.Given as goal

-- what was joined and what is left are all
abbrev pub invariant-loop-seat : goal.invariant-loop-seat
invariant-loop-seat l = record {
  board : l.all.place.table_id ≡ l.self.table.shared.table_id;
  empty : l.all.place.me.1 ≡ [];
  left : All (IsSeatOf l.self) l.seat-iterator.rest.items;
  all : both l.all.place.me.0 (gathered l.seat-iterator.rest.items) ≡ gathered l.fn.seats.items;
}
