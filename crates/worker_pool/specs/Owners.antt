-- The owners of the deques.
use Rattle.std.specs.Prelude.{◌≡◌, ℕ, List, map}
use Rattle.std.specs.List.{sum_by}
use Rattle.std.specs.declared.alloc.Global.{Global}
use Rattle.atomic_blocks.specs.Lent.{RowsId}
use Rattle.crossbeam_deque.specs.Handles.{worker_view, worker_deque, worker_flavor}
use Rattle.crossbeam_deque.specs.declared.handles.Worker.{Worker}
use Rattle.worker_pool.specs.declared.hand.Hand.{Hand}
use Rattle.worker_pool.specs.declared.rule.Fair.{Fair}

-- the end of a deque that pushes and pops
abbrev pub Owner : Type 0
Owner = Worker ℕ Global Hand Fair

-- the weight of what owners dealt
abbrev pub dealt_in : (ℕ → ℕ) → List Owner → ℕ
dealt_in h owners = sum_by (λ (o : Owner). sum_by h (worker_view o).dealt) owners

-- the weight of what owners took
abbrev pub taken_by : (ℕ → ℕ) → List Owner → ℕ
taken_by h owners = sum_by (λ (o : Owner). sum_by h (worker_view o).taken) owners

-- the deques of owners
abbrev pub owned : List Owner → List (RowsId × Global)
owned owners = map (λ (o : Owner). worker_deque o) owners

-- the parts of an owner's pass
abbrev pub parts : Owner → ℕ
parts o = (worker_view o).parts

-- a FIFO deque, of whose parts the owner has p
pub record IsOwner (p : ℕ) (o : Owner) : Type 0 where
  pub fifo : worker_flavor o ≡ 0
  pub has : parts o ≡ p
