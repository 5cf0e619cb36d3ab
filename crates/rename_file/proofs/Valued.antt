-- Values of registers, and which of them are still to come.
use Rattle.std.proofs.Common.{◌≡◌, ℕ, zero, suc, ◌<◌, ◌≤◌, List, [], ◌∷◌, length, get_or, Option, Some, None, refl, sym, ap, ◌∙◌, arith, replicate}
use Rattle.std.specs.Prelude.{Bool, true, false, not, set, if◌then◌else◌, IsTrue, IsSome}
use Rattle.std.proofs.lemmas.List.{set-get_or}
use Rattle.rename_file.specs.Valued.{cells_of}

length-cells : (vs : List ℕ) (bs : List Bool) → length vs ≤ length bs → length (cells_of vs bs) ≡ length vs
length-cells [] bs le = refl
length-cells (v ∷ vs) [] le = absurd (omega arith)
length-cells (v ∷ vs) (b ∷ bs) le = omega (arith, length-cells vs bs (omega arith))

cell_at : (vs : List ℕ) (bs : List Bool) (i : ℕ) → length vs ≤ length bs → i < length vs → get_or (cells_of vs bs) i None ≡ (if get_or bs i false then None else Some (get_or vs i 0))
cell_at [] bs i le lt = absurd (omega arith)
cell_at (v ∷ vs) [] i le lt = absurd (omega arith)
cell_at (v ∷ vs) (b ∷ bs) zero le lt = refl
cell_at (v ∷ vs) (b ∷ bs) (suc i) le lt = cell_at vs bs i (omega arith) (omega arith)

cell-written : (vs : List ℕ) (bs : List Bool) (i v : ℕ) → length vs ≤ length bs → cells_of (set vs i v) (set bs i false) ≡ set (cells_of vs bs) i (Some v)
cell-written [] bs i x le = refl
cell-written (v ∷ vs) [] i x le = absurd (omega arith)
cell-written (v ∷ vs) (b ∷ bs) zero x le = refl
cell-written (v ∷ vs) (b ∷ bs) (suc i) x le = ap (λ (cs : List (Option ℕ)). (if b then None else Some v) ∷ cs) (cell-written vs bs i x (omega arith))

cell-cleared : (vs : List ℕ) (bs : List Bool) (i : ℕ) → length vs ≤ length bs → cells_of vs (set bs i true) ≡ set (cells_of vs bs) i None
cell-cleared [] bs i le = refl
cell-cleared (v ∷ vs) [] i le = absurd (omega arith)
cell-cleared (v ∷ vs) (b ∷ bs) zero le = refl
cell-cleared (v ∷ vs) (b ∷ bs) (suc i) le = ap (λ (cs : List (Option ℕ)). (if b then None else Some v) ∷ cs) (cell-cleared vs bs i (omega arith))

-- so many values that are 0
pub cells_of_zeros : (n m : ℕ) → n ≤ m → cells_of (replicate n 0) (replicate m false) ≡ replicate n (Some 0)
cells_of_zeros zero m le = refl
cells_of_zeros (suc n) zero le = absurd (omega arith)
cells_of_zeros (suc n) (suc m) le = ap (λ (cs : List (Option ℕ)). Some 0 ∷ cs) (cells_of_zeros n m (omega arith))

valued_some : (b : Bool) (v : ℕ) → (IsTrue (not b) → IsSome (if b then None else Some v)) × (IsSome (if b then None else Some v) → IsTrue (not b))
valued_some true v = (λ e. e, λ e. e)
valued_some false v = (λ _. refl, λ _. refl)

some_is : (b : Bool) (v : ℕ) → IsSome (if b then None else Some v) → Some v ≡ (if b then None else Some v)
some_is true v some = absurd cc
some_is false v some = refl

not_busy : (b : Bool) → IsTrue (not b) → b ≡ false
not_busy true busy = sym busy
not_busy false e = refl

-- ---- what the cells in now are, and after each change

module _ (vs : List ℕ) (bs : List Bool) (now : List (Option ℕ)) (is : cells_of vs bs ≡ now) (few : length vs ≤ 480) (wide : length bs ≡ 480) where
  pub in_values : (i : ℕ) → i < length now → i < length vs
  in_values i lt = omega (arith, ap length is, length-cells vs bs (omega (arith, few, wide)), lt)

  pub is_cell : (i : ℕ) → i < length now → (if get_or bs i false then None else Some (get_or vs i 0)) ≡ get_or now i None
  is_cell i lt = sym (cell_at vs bs i (omega (arith, few, wide)) (in_values i lt)) ∙ ap (λ (cs : List (Option ℕ)). get_or cs i None) is

  -- what stands at a register that has its value
  pub is_value : (i : ℕ) → i < length now → IsSome (get_or now i None) → Some (get_or vs i 0) ≡ get_or now i None
  is_value i lt some = some_is (get_or bs i false) (get_or vs i 0) (rw (is_cell i lt) some) ∙ is_cell i lt

  pub is_valued : (i : ℕ) → i < length now → let b = get_or bs i false in (IsTrue (not b) → IsSome (get_or now i None)) × (IsSome (get_or now i None) → IsTrue (not b))
  is_valued i lt = rw (← is_cell i lt) (valued_some (get_or bs i false) (get_or vs i 0))

  pub written : (i v : ℕ) → cells_of (set vs i v) (set bs i false) ≡ set now i (Some v)
  written i v = cell-written vs bs i v (omega (arith, few, wide)) ∙ ap (λ (cs : List (Option ℕ)). set cs i (Some v)) is

  pub cleared : (i : ℕ) → cells_of vs (set bs i true) ≡ set now i None
  cleared i = cell-cleared vs bs i (omega (arith, few, wide)) ∙ ap (λ (cs : List (Option ℕ)). set cs i None) is

  -- a register that has its value keeps it
  pub kept : (i : ℕ) → i < length now → IsSome (get_or now i None) → cells_of vs (set bs i false) ≡ now
  kept i lt some = ap (λ (b : Bool). cells_of vs (set bs i b)) (sym (not_busy (get_or bs i false) ((is_valued i lt).1 some))) ∙ ap (cells_of vs) (set-get_or bs i false) ∙ is
