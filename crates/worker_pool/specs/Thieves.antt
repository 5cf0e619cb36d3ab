-- Rows of thieves.
use Rattle.std.specs.Prelude.{◌≡◌, ℕ, List, map}
use Rattle.std.specs.List.{sum_by}
use Rattle.std.specs.declared.alloc.Global.{Global}
use Rattle.std.specs.declared.vec.Vec.{Vec}
use Rattle.crossbeam_deque.specs.Handles.{view, stealer_deque}
use Rattle.atomic_blocks.specs.Lent.{RowsId}
use Rattle.worker_pool.specs.declared.thief.Thief.{Thief}

-- the weight of what a row took
abbrev pub taken_in : (ℕ → ℕ) → List Thief → ℕ
taken_in h row = sum_by (λ (t : Thief). sum_by h (view t.pass).taken) row

-- the deques of a row's thieves
abbrev pub deques_of : List Thief → List (RowsId × Global)
deques_of row = map (λ (t : Thief). stealer_deque t.stealer) row

-- a row has a thief for each of these deques
abbrev pub IsRowOf : List (RowsId × Global) → Vec Thief Global → Type 0
IsRowOf deques row = deques_of row.items ≡ deques

-- a row of which no thief has taken a job
pub record IsNewRow (deques : List (RowsId × Global)) (row : Vec Thief Global) : Type 0 where
  pub is_row : IsRowOf deques row
  pub none : (h : ℕ → ℕ) → taken_in h row.items ≡ 0

-- the weight of what several rows took
abbrev pub taken_in_rows : (ℕ → ℕ) → List (Vec Thief Global) → ℕ
taken_in_rows h rows = sum_by (λ (row : Vec Thief Global). taken_in h row.items) rows
