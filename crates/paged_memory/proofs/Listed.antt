-- The pages of the map that a list of pages shows are that list.
use Rattle.std.proofs.Common.{◌≡◌, ℕ, zero, suc, ◌+◌, ◌-◌, ◌/◌, ◌%◌, ◌<◌, ◌≤◌, Bool, true, false, ◌&&◌, ◌||◌, nat_lt, nat_le, Option, Some, None, is_some, List, [], ◌∷◌, map, length, cond, eqb, T, arith, ap, sym, ◌∙◌, refl, subst, lt_trans, inl, inr, if◌then◌else◌}
use Rattle.std.specs.Prelude.{slice_index, ◌==◌}
use Rattle.std.specs.List.{list_any}
use Rattle.std.proofs.lemmas.Bool.{cases_eq}
use Rattle.std.proofs.lemmas.Bool.Decides.{nat_tests}
use Rattle.std.specs.Ordering.{nat_cmp, eq_by_cmp, is_lt}
use Rattle.std.specs.Cmp.{nat_cmp_total}
use Rattle.std.specs.FinMap.{get, find, entries, keys, retain_keys, from_sorted, is_sorted, entries_sorted, contains_key-keys, get-from_sorted, entries-from_sorted, get-retain_keys, same_map, nat_cmp-IsAntisymmetric}
use Rattle.std.specs.FinMap.Entries.{below_all}
use Rattle.paged_memory.specs.Cells.{Cell, Cells, byte_of, byte_at}
use Rattle.paged_memory.specs.Pages.{PageValue, bytes_from, page_at, page_addresses, pages_of}
use Rattle.paged_memory.specs.Layout.{place_of, page_in, page_bytes, address_of, cell_in, cell_at, cells_of, IsSized, IsSound}
use Rattle.paged_memory.proofs.Tabulated.{tie}
use Rattle.paged_memory.proofs.OnePage.{get-cells_of, get_in_page}

-- ---- the keys of a map, from which addresses it has

-- an address stands in a list
abbrev pub stands : ℕ → List ℕ → Bool
stands q xs = list_any (eqb q) xs

-- entries at these addresses
abbrev pub entries_on : (ℕ → Cell) → List ℕ → List (ℕ × Cell)
entries_on c [] = []
entries_on c (a ∷ xs) = (a, c a) ∷ entries_on c xs

keys-entries_on : (c : ℕ → Cell) (xs : List ℕ) → map (λ e. e.0) (entries_on c xs) ≡ xs
keys-entries_on c [] = refl
keys-entries_on c (a ∷ xs) = ap (λ (bs : List ℕ). a ∷ bs) (keys-entries_on c xs)

found : (c : ℕ → Cell) (q a : ℕ) (b : Bool) → cond (eqb q a) (Some (c a)) (cond b (Some (c q)) None) ≡ cond (eqb q a || b) (Some (c q)) None
found c q a b =
    elim (cases_eq q a) [
      | inl same ↦ rw same (let t : eqb a a ≡ true = grind (arith, nat_tests) in rw t refl)
      | inr other ↦ let t : eqb q a ≡ false = grind (arith, nat_tests) in rw t refl
    ]

find-entries_on : (c : ℕ → Cell) (xs : List ℕ) (q : ℕ) → find nat_cmp q (entries_on c xs) ≡ cond (stands q xs) (Some (c q)) None
find-entries_on c [] q = refl
find-entries_on c (a ∷ xs) q = rw (tie, find-entries_on c xs q) (found c q a (stands q xs))

cell_or : Option Cell → Cell
cell_or None = record { byte = 0; writable = false; executable = false }
cell_or (Some c) = c

rebuilt : (o : Option Cell) → o ≡ cond (is_some o) (Some (cell_or o)) None
unfolding cell_or
rebuilt None = refl
rebuilt (Some c) = refl

-- addresses that rise, and are those that a map has, are its keys
pub keys-from_stands : (m : Cells) (xs : List ℕ) → ((c : ℕ → Cell) → T (is_sorted nat_cmp (entries_on c xs))) → ((q : ℕ) → is_some (get m q) ≡ stands q xs) → keys m ≡ xs
keys-from_stands m xs rising has =
    let c : ℕ → Cell = λ q. cell_or (get m q) in
    let n : Cells = from_sorted (entries_on c xs) in
    let same : m ≡ n = same_map nat_cmp_total nat_cmp-IsAntisymmetric m n (λ q.
    rebuilt (get m q)
    ∙ ap (λ b. cond b (Some (c q)) None) (has q)
    ∙ sym (find-entries_on c xs q)
    ∙ sym (get-from_sorted nat_cmp (entries_on c xs) q (rising c))) in
    ap keys same ∙ ap (map (λ e. e.0)) (entries-from_sorted nat_cmp (entries_on c xs) (rising c)) ∙ keys-entries_on c xs

below_same : (c : ℕ → Cell) (x : ℕ) (es : List (ℕ × Cell)) → below_all nat_cmp x (entries_on c (map (λ e. e.0) es)) ≡ below_all nat_cmp x es
below_same c x [] = refl
below_same c x (e ∷ es) = ap (λ b. is_lt (nat_cmp x e.0) && b) (below_same c x es)

-- that entries rise says something of their keys alone
sorted_same : (c : ℕ → Cell) (es : List (ℕ × Cell)) → is_sorted nat_cmp (entries_on c (map (λ e. e.0) es)) ≡ is_sorted nat_cmp es
sorted_same c [] = refl
sorted_same c (e ∷ es) = rw (below_same c e.0 es, sorted_same c es) refl

stands-keys : (q : ℕ) (xs : List ℕ) → list_any (eq_by_cmp nat_cmp q) xs ≡ stands q xs
stands-keys q [] = refl
stands-keys q (x ∷ xs) = rw (tie q x, stands-keys q xs) refl

-- maps that have the same addresses have the same keys
pub same_keys : (m n : Cells) → ((q : ℕ) → is_some (get m q) ≡ is_some (get n q)) → keys m ≡ keys n
same_keys m n same =
    keys-from_stands m (keys n) (λ c. subst T (sym (sorted_same c (entries n))) (entries_sorted n)) (λ q.
    same q ∙ contains_key-keys n q ∙ stands-keys q (keys n))

-- ---- the addresses of so many places, from one on

addresses : ℕ → ℕ → ℕ → List ℕ
addresses t i zero = []
addresses t i (suc k) = address_of t i ∷ addresses t (i + 1) k

next_address : (t i : ℕ) → t ≤ 64 → address_of t i < address_of t (i + 1)
next_address t i few = grind (arith, nat_tests)

less_than : (x y : ℕ) → x < y → is_lt (nat_cmp x y) ≡ true
less_than x y h = grind (arith, nat_tests)

all_above : (c : ℕ → Cell) (t i k x : ℕ) → t ≤ 64 → x < address_of t i → below_all nat_cmp x (entries_on c (addresses t i k)) ≡ true
unfolding addresses
all_above c t i zero x few h = refl
all_above c t i (suc k) x few h = rw (less_than x (address_of t i) h, all_above c t (i + 1) k x few (lt_trans h (next_address t i few))) refl

rising_true : (c : ℕ → Cell) (t i k : ℕ) → t ≤ 64 → is_sorted nat_cmp (entries_on c (addresses t i k)) ≡ true
unfolding addresses
rising_true c t i zero few = refl
rising_true c t i (suc k) few = rw (all_above c t (i + 1) k (address_of t i) few (next_address t i few), rising_true c t (i + 1) k few) refl

rising : (t i k : ℕ) → t ≤ 64 → (c : ℕ → Cell) → T (is_sorted nat_cmp (entries_on c (addresses t i k)))
rising t i k few c = subst T (sym (rising_true c t i k few)) tt

-- a page number whose place is between two
abbrev between : ℕ → ℕ → ℕ → ℕ → Bool
between t i n g =
    if nat_le 16 g && nat_lt g (16 + t) then nat_le i (g - 16) && nat_lt (g - 16) n
    else (nat_le 256 g && nat_le i (t + (g - 256)) && nat_lt (t + (g - 256)) n)

none_between : (t i g : ℕ) → between t i i g ≡ false
none_between t i g = grind (arith, nat_tests)

one_between : (t i n q : ℕ) → t ≤ 64 → i < n → (eqb q (address_of t i) || (eqb (q % 4096) 0 && between t (i + 1) n (q / 4096))) ≡ (eqb (q % 4096) 0 && between t i n (q / 4096))
one_between t i n q few h = grind (arith, nat_tests)

stands-addresses : (t i k n q : ℕ) → t ≤ 64 → n ≡ i + k → stands q (addresses t i k) ≡ (eqb (q % 4096) 0 && between t i n (q / 4096))
unfolding addresses
stands-addresses t i zero n q few e =
    let none : n ≡ i = omega (arith, e) in
    rw (none, none_between t i (q / 4096)) (sym (never (eqb (q % 4096) 0)))
  where
    never : (b : Bool) → (b && false) ≡ false
    never true = refl
    never false = refl
stands-addresses t i (suc k) n q few e = ap (λ b. eqb q (address_of t i) || b) (stands-addresses t (i + 1) k n q few (omega arith)) ∙ one_between t i n q few (omega arith)

placed : (t n g : ℕ) → t ≤ n → between t 0 n g ≡ is_some (place_of t n g)
placed t n g h = grind (arith, nat_tests)

-- ---- the addresses of the mapped pages

mapped : (t : ℕ) (ps : List PageValue) (at : ℕ) (o : Option ℕ) → is_some (cell_in t ps at o) ≡ is_some o
mapped t ps at None = refl
mapped t ps at (Some p) = refl

mapped_at : (t : ℕ) (ps : List PageValue) (q : ℕ) → IsSized t (length ps) → is_some (get (cells_of t ps) q) ≡ is_some (place_of t (length ps) (q / 4096))
unfolding cell_at
mapped_at t ps q s = ap is_some (get-cells_of t ps q s) ∙ mapped t ps (q % 4096) _

kept : (b : Bool) (o : Option Cell) → is_some (cond b o None) ≡ (b && is_some o)
kept true o = refl
kept false o = refl

page_addresses-cells_of : (t : ℕ) (ps : List PageValue) → IsSized t (length ps) → page_addresses (cells_of t ps) ≡ addresses t 0 (length ps)
unfolding page_addresses
page_addresses-cells_of t ps s =
    keys-from_stands _ _ (rising t 0 (length ps) s.few_text) (λ q.
    ap is_some (get-retain_keys (cells_of t ps) (λ a. a % 4096 == 0) q (λ x e. ap (λ (a : ℕ). a % 4096 == 0) (sym (nat_cmp-IsAntisymmetric q x e))))
    ∙ kept (q % 4096 == 0) (get (cells_of t ps) q)
    ∙ ap (λ b. eqb (q % 4096) 0 && b) (mapped_at t ps q s ∙ sym (placed t (length ps) (q / 4096) s.text_first))
    ∙ sym (stands-addresses t 0 (length ps) (length ps) q s.few_text (omega arith)))

-- maps that have the same addresses have the same pages' addresses
pub same_page_addresses : (m n : Cells) → ((q : ℕ) → is_some (get m q) ≡ is_some (get n q)) → page_addresses m ≡ page_addresses n
unfolding page_addresses
same_page_addresses m n same = same_keys _ _ (λ q. at m q ∙ ap (λ b. (q % 4096 == 0) && b) (same q) ∙ sym (at n q))
  where
    at : (c : Cells) (q : ℕ) → is_some (get (retain_keys c (λ a. a % 4096 == 0)) q) ≡ ((q % 4096 == 0) && is_some (get c q))
    at c q = ap is_some (get-retain_keys c (λ a. a % 4096 == 0) q (λ x e. ap (λ (a : ℕ). a % 4096 == 0) (sym (nat_cmp-IsAntisymmetric q x e)))) ∙ kept (q % 4096 == 0) (get c q)

-- ---- the pages themselves

bytes_from-same : (f : ℕ → ℕ) (a : ℕ) (bs : List ℕ) → ((j : ℕ) → j < length bs → f (a + j) ≡ slice_index bs j) → bytes_from f a (length bs) ≡ bs
unfolding bytes_from
bytes_from-same f a [] same = refl
bytes_from-same f a (b ∷ bs) same =
    let start : a + 0 ≡ a = omega arith in
    let step : (j : ℕ) → a + 1 + j ≡ a + suc j = λ j. omega arith in
    let here : f a ≡ b = ap f (sym start) ∙ same 0 (omega arith) in
    rw (here, bytes_from-same f (a + 1) bs (λ j h. ap f (step j) ∙ same (suc j) (omega arith))) refl

place-address_of : (t n p : ℕ) → IsSized t n → p < n → place_of t n (address_of t p / 4096) ≡ Some p
place-address_of t n p s h = grind (arith, nat_tests)

whole_page : (t p : ℕ) → address_of t p % 4096 ≡ 0
whole_page t p = grind (arith, nat_tests)

page_at-address : (t : ℕ) (ps : List PageValue) (p : ℕ) → IsSound t ps → p < length ps → page_at (cells_of t ps) (address_of t p) ≡ page_in ps p
unfolding page_at
page_at-address t ps p s h =
    let a : ℕ = address_of t p in
    let long : length (page_bytes ps p) ≡ 4096 = s.laid_out.full p h in
    let bytes : bytes_from (byte_at (cells_of t ps)) a (length (page_bytes ps p)) ≡ page_bytes ps p = bytes_from-same (byte_at (cells_of t ps)) a (page_bytes ps p) (λ j lt.
    let offset : a % 4096 + j ≡ j = omega (arith, whole_page t p) in
    ap byte_of (get_in_page t ps a j (Some p) s.sized (place-address_of t (length ps) p s.sized h) (omega (arith, offset, lt, long)))
    ∙ ap (slice_index (page_bytes ps p)) offset) in
    same_page _ _ (sym (s.laid_out.addresses p h)) (ap (bytes_from (byte_at (cells_of t ps)) a) (sym long) ∙ bytes)
  where
    same_page : (q r : PageValue) → q.address ≡ r.address → q.bytes ≡ r.bytes → q ≡ r
    same_page q r x y = λ i. record { address = x i; bytes = y i }

map-addresses : (f : ℕ → PageValue) (t i : ℕ) (qs : List PageValue) → ((p : ℕ) → p < length qs → f (address_of t (i + p)) ≡ page_in qs p) → map f (addresses t i (length qs)) ≡ qs
unfolding addresses
map-addresses f t i [] is = refl
map-addresses f t i (q ∷ qs) is =
    let start : i + 0 ≡ i = omega arith in
    let step : (p : ℕ) → i + 1 + p ≡ i + suc p = λ p. omega arith in
    let here : f (address_of t i) ≡ q = ap (λ (p : ℕ). f (address_of t p)) (sym start) ∙ is 0 (omega arith) in
    rw (here, map-addresses f t (i + 1) qs (λ p h. ap (λ (p : ℕ). f (address_of t p)) (step p) ∙ is (suc p) (omega arith))) refl

pub pages_of-cells_of : (t : ℕ) (ps : List PageValue) → IsSound t ps → pages_of (cells_of t ps) ≡ ps
unfolding pages_of
pages_of-cells_of t ps s =
    ap (map (page_at (cells_of t ps))) (page_addresses-cells_of t ps s.sized)
    ∙ map-addresses (page_at (cells_of t ps)) t 0 ps (λ p h.
    let start : 0 + p ≡ p = omega arith in
    ap (λ (r : ℕ). page_at (cells_of t ps) (address_of t r)) start ∙ page_at-address t ps p s h)
