use Rattle.std.proofs.Common.{◌≡◌, ◌+◌, ◌≤◌, ◌++◌, length, vec_len, vec_capacity}
use Rattle.worker_pool.specs.Shifts.{owners_in, rows_in, turns_of}
use Rattle.worker_pool.proofs.gather.gather.Given as goal

-- what came out, and what is left to take apart, is all
abbrev pub invariant-loop-shift : goal.invariant-loop-shift
invariant-loop-shift g l = record {
  room : (vec_len l.fn.shifts ≤ vec_capacity l.owners) × (vec_len l.fn.shifts ≤ vec_capacity l.rows) × (vec_len l.fn.shifts ≤ vec_capacity l.turns);
  count : (vec_len l.owners + length l.shift-iterator.rest.items ≡ vec_len l.fn.shifts) × (vec_len l.rows + length l.shift-iterator.rest.items ≡ vec_len l.fn.shifts) × (vec_len l.turns + length l.shift-iterator.rest.items ≡ vec_len l.fn.shifts);
  owners : l.owners.items ++ owners_in l.shift-iterator.rest.items ≡ owners_in l.fn.shifts.items;
  rows : l.rows.items ++ rows_in l.shift-iterator.rest.items ≡ rows_in l.fn.shifts.items;
  turns : l.turns.items ++ turns_of l.shift-iterator.rest.items ≡ turns_of l.fn.shifts.items;
}
