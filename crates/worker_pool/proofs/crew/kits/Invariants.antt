use Rattle.std.proofs.Common.{◌≡◌, ◌+◌, ◌≤◌, ◌++◌, All, length, vec_len, vec_capacity}
use Rattle.worker_pool.specs.Owners.{owned}
use Rattle.worker_pool.specs.Thieves.{IsNewRow}
use Rattle.worker_pool.specs.Kits.{IsKit, seats_of, owners_of}
use Rattle.worker_pool.proofs.crew.kits.Given as goal

-- the kits, and what is left of seats, owners and rows, are all
abbrev pub invariant-loop-seat : goal.invariant-loop-seat
invariant-loop-seat g l = record {
  room : vec_len l.fn.seats ≤ vec_capacity l.kits;
  count : vec_len l.kits + length l.seat-iterator.a.rest.items ≡ vec_len l.fn.seats;
  many : (length l.seat-iterator.b.a.rest.items ≡ length l.seat-iterator.a.rest.items) × (length l.seat-iterator.b.b.rest.items ≡ length l.seat-iterator.a.rest.items);
  seats : seats_of l.kits.items ++ l.seat-iterator.a.rest.items ≡ l.fn.seats.items;
  owners : owners_of l.kits.items ++ l.seat-iterator.b.a.rest.items ≡ l.fn.owners.items;
  rows : All (IsNewRow (owned l.fn.owners.items)) l.seat-iterator.b.b.rest.items;
  kits : All (IsKit (owned l.fn.owners.items)) l.kits.items;
}
