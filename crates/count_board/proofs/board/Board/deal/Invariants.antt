use Rattle.std.proofs.Common.{◌≡◌, ◌+◌, [], All, vec_len, ◌-◌, vec_capacity, ◌≤◌}
use Rattle.count_board.specs.Views.{fresh}
use Rattle.count_board.specs.Seats.{IsSeatOf, IsNew}
use Rattle.count_board.proofs.board.Board.deal.Given as goal

abbrev pub invariant-loop : goal.invariant-loop
invariant-loop l = record {
  board : l.first.place.table_id ≡ l.self.table.shared.table_id;
  first : l.first.place.me ≡ (fresh (l.self.seats - (l.counter - 1)), []);
  room : l.self.seats ≤ vec_capacity l.dealt;
  count : vec_len l.dealt + 1 ≡ l.counter;
  dealt : All (λ s. IsSeatOf l.self s × IsNew s) l.dealt.items;
}
