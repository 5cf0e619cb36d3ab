use Rattle.std.proofs.Common.{◌≡◌, ◌-◌, ◌≤◌, ℕ, All, vec_len, vec_capacity}
use Rattle.worker_pool.specs.Rule.{whole}
use Rattle.worker_pool.specs.Owners.{IsOwner, dealt_in, taken_by, owned}
use Rattle.worker_pool.specs.Thieves.{IsNewRow}
use Rattle.worker_pool.proofs.rows.cut_rows.Given as goal

abbrev pub invariant-loop : goal.invariant-loop
invariant-loop l = record {
  room : l.many ≤ vec_capacity l.rows;
  count : vec_len l.rows ≡ l.counter;
  rows : All (IsNewRow (owned l.initial.owners.items)) l.rows.items;
  same : owned l.owners.items ≡ owned l.initial.owners.items;
  jobs : (h : ℕ → ℕ) → (dealt_in h l.owners.items ≡ dealt_in h l.initial.owners.items) × (taken_by h l.owners.items ≡ taken_by h l.initial.owners.items);
  parts : All (IsOwner (whole - l.counter)) l.owners.items;
}
