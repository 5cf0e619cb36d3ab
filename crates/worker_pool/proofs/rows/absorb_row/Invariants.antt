use Rattle.std.proofs.Common.{◌≡◌, ◌+◌, ◌<◌, ◌≤◌, ℕ, suc, All, length, get_or, drop}
use Rattle.worker_pool.specs.Thieves.{taken_in, deques_of}
use Rattle.worker_pool.specs.Owners.{Owner, IsOwner, dealt_in, taken_by, owned}
use Rattle.worker_pool.proofs.rows.absorb_row.Given as goal

-- the thieves of the owners before the next were absorbed
abbrev pub invariant-loop-thief : goal.invariant-loop-thief
invariant-loop-thief l = record {
  many : length l.owners.items ≡ length l.initial.owners.items;
  row : deques_of l.thief-iterator.rest.items ≡ drop l.next (owned l.initial.owners.items);
  same : owned l.owners.items ≡ owned l.initial.owners.items;
  dealt : (h : ℕ → ℕ) → dealt_in h l.owners.items ≡ dealt_in h l.initial.owners.items;
  taken : (h : ℕ → ℕ) → taken_by h l.owners.items + taken_in h l.thief-iterator.rest.items ≡ taken_by h l.initial.owners.items + taken_in h l.fn.row.items;
  done : (p k : ℕ) (d : Owner) → All (IsOwner p) l.initial.owners.items → k < l.next → IsOwner (suc p) (get_or l.owners.items k d);
  left : (k : ℕ) (d : Owner) → l.next ≤ k → get_or l.owners.items k d ≡ get_or l.initial.owners.items k d;
}
