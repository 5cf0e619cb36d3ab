use Rattle.std.proofs.Common.{◌≡◌, ◌+◌, ◌-◌, ◌≤◌, ℕ, All, length, vec_len}
use Rattle.worker_pool.specs.Rule.{whole}
use Rattle.worker_pool.specs.Owners.{IsOwner, dealt_in, taken_by, owned}
use Rattle.worker_pool.specs.Thieves.{IsRowOf, taken_in_rows}
use Rattle.worker_pool.proofs.rows.absorb_rows.Given as goal

abbrev pub invariant-loop-row : goal.invariant-loop-row
invariant-loop-row l = record {
  few : length l.row-iterator.rest.items ≤ vec_len l.fn.rows;
  rows : All (IsRowOf (owned l.initial.owners.items)) l.row-iterator.rest.items;
  same : owned l.owners.items ≡ owned l.initial.owners.items;
  dealt : (h : ℕ → ℕ) → dealt_in h l.owners.items ≡ dealt_in h l.initial.owners.items;
  taken : (h : ℕ → ℕ) → taken_by h l.owners.items + taken_in_rows h l.row-iterator.rest.items ≡ taken_by h l.initial.owners.items + taken_in_rows h l.fn.rows.items;
  parts : All (IsOwner (whole - length l.row-iterator.rest.items)) l.owners.items;
}
