-- What the memory map has within one page.
use Rattle.std.proofs.Common.{◌≡◌, ℕ, zero, suc, ◌+◌, ◌/◌, ◌%◌, ◌<◌, ◌≤◌, Bool, true, false, nat_lt, nat_le, Option, Some, None, List, length, cond, ltb, arith, ap, sym, ◌∙◌, refl}
use Rattle.std.specs.Prelude.{slice_index}
use Rattle.std.proofs.lemmas.Bool.Decides.{nat_tests}
use Rattle.std.specs.FinMap.{get}
use Rattle.paged_memory.specs.Cells.{Cell, Rights, rights_of, rights_at, byte_of, byte_at, number_at, all_have}
use Rattle.paged_memory.specs.Pages.{PageValue}
use Rattle.paged_memory.specs.Layout.{place_of, page_bytes, cell_in, cell_at, cells_of, IsSized}
use Rattle.paged_memory.proofs.Tabulated.{get-tabulated}
use Rattle.paged_memory.proofs.Numbers.{number_at-same}

far : (t n q : ℕ) → IsSized t n → 0x200000 ≤ q → place_of t n (q / 4096) ≡ None
far t n q s h = grind (arith, nat_tests)

pub beyond : (t : ℕ) (ps : List PageValue) (q : ℕ) → IsSized t (length ps) → 0x200000 ≤ q → None ≡ cell_at t ps q
unfolding cell_at
beyond t ps q s h = ap (cell_in t ps (q % 4096)) (sym (far t (length ps) q s h))

below : (o : Option Cell) (q n : ℕ) → (n ≤ q → None ≡ o) → cond (ltb q n) o None ≡ o
below o q n h = grind (arith, nat_tests)

pub get-cells_of : (t : ℕ) (ps : List PageValue) (q : ℕ) → IsSized t (length ps) → get (cells_of t ps) q ≡ cell_at t ps q
unfolding cells_of
get-cells_of t ps q s = get-tabulated (cell_at t ps) 0x200000 q ∙ below _ q 0x200000 (beyond t ps q s)

-- the cell at an address, by the place of its page
pub get_placed : (t : ℕ) (ps : List PageValue) (a : ℕ) (o : Option ℕ) → IsSized t (length ps) → place_of t (length ps) (a / 4096) ≡ o → get (cells_of t ps) a ≡ cell_in t ps (a % 4096) o
unfolding cell_at
get_placed t ps a o s e = get-cells_of t ps a s ∙ ap (cell_in t ps (a % 4096)) e

cell_in_page : (t : ℕ) (ps : List PageValue) (a i : ℕ) (o : Option ℕ) → place_of t (length ps) (a / 4096) ≡ o → a % 4096 + i < 4096 → cell_at t ps (a + i) ≡ cell_in t ps (a % 4096 + i) o
unfolding cell_at
cell_in_page t ps a i o e h =
    let page : (a + i) / 4096 ≡ a / 4096 = omega arith in
    let offset : (a + i) % 4096 ≡ a % 4096 + i = omega arith in
    rw (page, offset) (ap (cell_in t ps (a % 4096 + i)) e)

-- the cell at an address that lies i above another in its page
pub get_in_page : (t : ℕ) (ps : List PageValue) (a i : ℕ) (o : Option ℕ) → IsSized t (length ps) → place_of t (length ps) (a / 4096) ≡ o → a % 4096 + i < 4096 → get (cells_of t ps) (a + i) ≡ cell_in t ps (a % 4096 + i) o
get_in_page t ps a i o s e h = get-cells_of t ps (a + i) s ∙ cell_in_page t ps a i o e h

-- the number in a page is the number in the map
pub number_in_page : (t : ℕ) (ps : List PageValue) (a k p : ℕ) → IsSized t (length ps) → place_of t (length ps) (a / 4096) ≡ Some p → a % 4096 + k ≤ 4096 → number_at (byte_at (cells_of t ps)) a k ≡ number_at (slice_index (page_bytes ps p)) (a % 4096) k
number_in_page t ps a k p s e h =
    number_at-same _ _ a (a % 4096) k (λ i lt. ap byte_of (get_in_page t ps a i (Some p) s e (omega arith)))

-- ---- rights

-- addresses with one answer have it together
pub all_have-true : (right : Rights → Bool) (rights : ℕ → Rights) (a k : ℕ) → ((i : ℕ) → i < k → right (rights (a + i)) ≡ true) → all_have right rights a k ≡ true
unfolding all_have
all_have-true right rights a zero each = refl
all_have-true right rights a (suc k) each =
    let start : a + 0 ≡ a = omega arith in
    let here : right (rights a) ≡ true = ap (λ (x : ℕ). right (rights x)) (sym start) ∙ each 0 (omega arith) in
    let step : (i : ℕ) → a + 1 + i ≡ a + suc i = λ i. omega arith in
    let rest : all_have right rights (a + 1) k ≡ true = all_have-true right rights (a + 1) k (λ i lt. ap (λ (x : ℕ). right (rights x)) (step i) ∙ each (suc i) (omega arith)) in
    rw (here, rest) refl

pub all_have-false : (right : Rights → Bool) (rights : ℕ → Rights) (a k : ℕ) → 0 < k → right (rights a) ≡ false → all_have right rights a k ≡ false
unfolding all_have
all_have-false right rights a zero some here = absurd (omega arith)
all_have-false right rights a (suc k) some here = rw here refl

pub all_in_page : (right : Rights → Bool) (t : ℕ) (ps : List PageValue) (a k p : ℕ) → right (record { readable = true; writable = nat_le t p; executable = nat_lt p t }) ≡ true → IsSized t (length ps) → place_of t (length ps) (a / 4096) ≡ Some p → a % 4096 + k ≤ 4096 → all_have right (rights_at (cells_of t ps)) a k ≡ true
all_in_page right t ps a k p is s e h =
    all_have-true right _ a k (λ i lt. ap (λ c. right (rights_of c)) (get_in_page t ps a i (Some p) s e (omega arith)) ∙ is)

pub none_in_page : (right : Rights → Bool) (t : ℕ) (ps : List PageValue) (a k : ℕ) (o : Option ℕ) → right (rights_of (cell_in t ps (a % 4096) o)) ≡ false → IsSized t (length ps) → place_of t (length ps) (a / 4096) ≡ o → 0 < k → all_have right (rights_at (cells_of t ps)) a k ≡ false
none_in_page right t ps a k o is s e some =
    let start : a + 0 ≡ a = omega arith in
    let offset : a % 4096 + 0 ≡ a % 4096 = omega arith in
    let cell : get (cells_of t ps) a ≡ cell_in t ps (a % 4096) o = ap (get (cells_of t ps)) (sym start) ∙ get_in_page t ps a 0 o s e (omega arith) ∙ ap (λ (j : ℕ). cell_in t ps j o) offset in
    all_have-false right _ a k some (ap (λ c. right (rights_of c)) cell ∙ is)
