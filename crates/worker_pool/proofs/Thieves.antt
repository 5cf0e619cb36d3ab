-- A row of which one thief changed.
use Rattle.std.proofs.Common.{◌≡◌, ℕ, zero, suc, ◌+◌, ◌<◌, List, [], ◌∷◌, length, get_or, set, refl, ap, ◌∙◌, arith}
use Rattle.std.specs.List.{sum_by}
use Rattle.std.specs.declared.alloc.Global.{Global}
use Rattle.std.proofs.lemmas.List.Sums.{sum_by-set}
use Rattle.atomic_blocks.specs.Lent.{RowsId}
use Rattle.crossbeam_deque.specs.Handles.{view, stealer_deque}
use Rattle.worker_pool.specs.declared.thief.Thief.{Thief}
use Rattle.worker_pool.specs.Thieves.{taken_in, deques_of}

pub deques_set : (row : List Thief) (i : ℕ) (old t : Thief) → i < length row → old ≡ get_or row i old → stealer_deque t.stealer ≡ stealer_deque old.stealer → deques_of (set row i t) ≡ deques_of row
deques_set [] i old t l is same = refl
deques_set (x ∷ xs) zero old t l is same = ap (λ (d : RowsId × Global). d ∷ deques_of xs) (same ∙ ap (λ (u : Thief). stealer_deque u.stealer) is)
deques_set (x ∷ xs) (suc i) old t l is same = ap (λ (ds : List (RowsId × Global)). stealer_deque x.stealer ∷ ds) (deques_set xs i old t (omega arith) is same)

pub taken_set : (h : ℕ → ℕ) (row : List Thief) (i : ℕ) (old t : Thief) → i < length row → old ≡ get_or row i old → taken_in h (set row i t) + sum_by h (view old.pass).taken ≡ taken_in h row + sum_by h (view t.pass).taken
taken_set h row i old t l is =
    let s = sum_by-set (λ (u : Thief). sum_by h (view u.pass).taken) row i t old l in
    let e = ap (λ (u : Thief). sum_by h (view u.pass).taken) is in omega arith

pub length-deques_of : (row : List Thief) → length (deques_of row) ≡ length row
length-deques_of [] = refl
length-deques_of (t ∷ ts) = ap suc (length-deques_of ts)
