use Rattle.std.proofs.Common.{◌≡◌, ◌-◌, ◌<◌, ◌≤◌, ℕ, suc, All, length, get_or, take, vec_len, vec_capacity}
use Rattle.worker_pool.specs.Thieves.{taken_in, deques_of}
use Rattle.worker_pool.specs.Owners.{Owner, IsOwner, dealt_in, taken_by, owned}
use Rattle.worker_pool.proofs.rows.cut_row.Given as goal

abbrev pub decreases-loop-next : goal.decreases-loop-next
decreases-loop-next l = length l.owners.items - l.next

-- a thief was cut off from each owner before the next
abbrev pub invariant-loop-next : goal.invariant-loop-next
invariant-loop-next l = record {
  room : length l.owners.items ≤ vec_capacity l.row;
  count : vec_len l.row ≡ l.next;
  few : l.next ≤ length l.owners.items;
  many : length l.owners.items ≡ length l.initial.owners.items;
  row : deques_of l.row.items ≡ take l.next (owned l.initial.owners.items);
  none : (h : ℕ → ℕ) → taken_in h l.row.items ≡ 0;
  same : owned l.owners.items ≡ owned l.initial.owners.items;
  jobs : (h : ℕ → ℕ) → (dealt_in h l.owners.items ≡ dealt_in h l.initial.owners.items) × (taken_by h l.owners.items ≡ taken_by h l.initial.owners.items);
  done : (p k : ℕ) (d : Owner) → All (IsOwner (suc p)) l.initial.owners.items → k < l.next → IsOwner p (get_or l.owners.items k d);
  left : (k : ℕ) (d : Owner) → l.next ≤ k → get_or l.owners.items k d ≡ get_or l.initial.owners.items k d;
}
