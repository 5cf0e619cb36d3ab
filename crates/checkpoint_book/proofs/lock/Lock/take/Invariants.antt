use Rattle.std.proofs.Common.{◌≡◌}
use Rattle.checkpoint_book.proofs.lock.Lock.take.Given as goal

-- nothing is changed by a try that fails
abbrev pub invariant-loop : goal.invariant-loop
invariant-loop g l = record {
  lock : l.seat.place.table_id ≡ l.initial.seat.place.table_id;
  me : l.seat.place.me ≡ l.initial.seat.place.me;
}
