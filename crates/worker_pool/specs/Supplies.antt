-- What a worker takes jobs from.
use Rattle.std.specs.Prelude.{◌≡◌, ℕ, ◌+◌}
use Rattle.std.specs.List.{sum_by}
use Rattle.crossbeam_deque.specs.Handles.{worker_view, worker_deque, worker_flavor}
use Rattle.worker_pool.specs.declared.supply.Supply.{Supply}
use Rattle.worker_pool.specs.Owners.{parts}
use Rattle.worker_pool.specs.Thieves.{taken_in, deques_of}

-- the weight of what the owner and the thieves took
abbrev pub taken_from : (ℕ → ℕ) → Supply → ℕ
taken_from h s = sum_by h (worker_view s.owner).taken + taken_in h s.row.items

-- the deques are the same, and the owner differs at most in what it took
pub record SameDeques (old new : Supply) : Type 0 where
  pub own : worker_deque new.owner ≡ worker_deque old.owner
  pub flavor : worker_flavor new.owner ≡ worker_flavor old.owner
  pub parts : parts new.owner ≡ parts old.owner
  pub dealt : (worker_view new.owner).dealt ≡ (worker_view old.owner).dealt
  pub row : deques_of new.row.items ≡ deques_of old.row.items
