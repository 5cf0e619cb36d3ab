-- What a store leaves.
use Rattle.std.proofs.Common.{◌≡◌, ◌≢◌, ℕ, zero, suc, ◌+◌, ◌-◌, ◌/◌, ◌%◌, ◌^◌, ◌<◌, ◌≤◌, Bool, true, false, nat_le, Option, Some, None, Result, Ok, Err, List, [], ◌∷◌, length, cond, eqb, get_or, set, arith, ap, sym, ◌∙◌, refl, subst, inl, inr, IfSome}
use Rattle.std.proofs.lemmas.Bool.Decides.{nat_tests}
use Rattle.std.proofs.lemmas.Grind.{common_steps}
use Rattle.std.proofs.lemmas.Bool.{cases_eq}
use Rattle.std.proofs.lemmas.Option.{same_Some}
use Rattle.std.proofs.lemmas.List.{get_or_default}
use Rattle.std.proofs.Math.ListN.{length-set}
use Rattle.std.specs.Int.{byte_at as byte_of_number}
use Rattle.std.specs.Result.{IfErr, result_err}
use Rattle.std.specs.Cmp.{nat_cmp_total}
use Rattle.std.specs.FinMap.{same_map, nat_cmp-IsAntisymmetric}
use Rattle.paged_memory.specs.Cells.{Cell, within, write, rights_of, rights_at, all_have, is_writable, bytes_of, store_of}
use Rattle.paged_memory.specs.Pages.{PageValue}
use Rattle.paged_memory.specs.Layout.{place_of, page_in, page_bytes, address_of, cell_in, cell_at, cells_of, put_number, IsSized, IsSound}
use Rattle.paged_memory.proofs.Tabulated.{with_byte, written, get-write}
use Rattle.paged_memory.proofs.OnePage.{get-cells_of, all_in_page, none_in_page}
use Rattle.paged_memory.proofs.Accesses.{aligned_fits, some_bytes}
use Rattle.paged_memory.specs.declared.Width.{Width}
use Rattle.paged_memory.specs.declared.Fault.{Fault}
use Rattle.paged_memory.specs.declared.Fault.TheVariants.{StoreAccess}

-- ---- a number put into bytes

pub length-put_number : (bytes : List ℕ) (at k v : ℕ) → length (put_number bytes at k v) ≡ length bytes
length-put_number bytes at zero v = refl
length-put_number bytes at (suc k) v = length-set _ _ _ ∙ length-put_number bytes at k v

pub small_byte : (k v : ℕ) → byte_of_number k v < 256
small_byte zero v = omega arith
small_byte (suc k) v = remainder (v / 256 ^ suc k)
  where
    remainder : (n : ℕ) → n % 256 < 256
    remainder n = omega arith

small_set : (xs : List ℕ) (i b : ℕ) → b < 256 → ((j : ℕ) → get_or xs j 0 < 256) → (j : ℕ) → get_or (set xs i b) j 0 < 256
small_set [] i b h small j = small j
small_set (x ∷ xs) zero b h small zero = h
small_set (x ∷ xs) zero b h small (suc j) = small (suc j)
small_set (x ∷ xs) (suc i) b h small zero = small 0
small_set (x ∷ xs) (suc i) b h small (suc j) = small_set xs i b h (λ k. small (suc k)) j

-- bytes stay bytes
small-put_number : (bytes : List ℕ) (at k v : ℕ) → ((j : ℕ) → get_or bytes j 0 < 256) → (j : ℕ) → get_or (put_number bytes at k v) j 0 < 256
small-put_number bytes at zero v small j = small j
small-put_number bytes at (suc k) v small j = small_set (put_number bytes at k v) (at + k) (byte_of_number k v) (small_byte k v) (small-put_number bytes at k v small) j

get_or-set : (xs : List ℕ) (i j b : ℕ) → i < length xs → get_or (set xs i b) j 0 ≡ cond (eqb j i) b (get_or xs j 0)
get_or-set xs i j b h = grind (arith, common_steps, nat_tests)

one_put : (g : ℕ → ℕ) (at k v j : ℕ) → cond (eqb j (at + k)) (byte_of_number k v) (cond (within at k j) (byte_of_number (j - at) v) (g j)) ≡ cond (within at (suc k) j) (byte_of_number (j - at) v) (g j)
one_put g at k v j =
    let newest : j ≡ at + k → j - at ≡ k = λ h. omega (arith, h) in
    grind (arith, nat_tests, newest)

none_put : (at j b c : ℕ) → c ≡ cond (within at 0 j) b c
none_put at j b c = grind (arith, nat_tests)

-- each byte from an offset on is the number's, and the rest is as it was
pub get-put_number : (bytes : List ℕ) (at k v j : ℕ) → at + k ≤ length bytes → get_or (put_number bytes at k v) j 0 ≡ cond (within at k j) (byte_of_number (j - at) v) (get_or bytes j 0)
get-put_number bytes at zero v j h = none_put at j _ _
get-put_number bytes at (suc k) v j h =
    get_or-set (put_number bytes at k v) (at + k) j (byte_of_number k v) (omega (arith, length-put_number bytes at k v))
    ∙ ap (cond (eqb j (at + k)) (byte_of_number k v)) (get-put_number bytes at k v j (omega arith))
    ∙ one_put (λ i. get_or bytes i 0) at k v j

-- ---- a page replaced in the list

page_in-same : (ps : List PageValue) (p : ℕ) (q : PageValue) → p < length ps → page_in (set ps p q) p ≡ q
page_in-same ps p q h = grind (arith, common_steps)

page_in-other : (ps : List PageValue) (p r : ℕ) (q : PageValue) → r ≢ p → page_in (set ps p q) r ≡ page_in ps r
page_in-other ps p r q h = grind (arith, common_steps)

-- a page with other bytes, as many, leaves the list sound
pub sound_set : (t : ℕ) (ps : List PageValue) (p : ℕ) (q : PageValue) → IsSound t ps → p < length ps → q.address ≡ (page_in ps p).address → length q.bytes ≡ length (page_bytes ps p) → ((j : ℕ) → get_or q.bytes j 0 < 256) → IsSound t (set ps p q)
sound_set t ps p q s l a b small = record {
  sized = rw length-set s.sized;
  laid_out = record {
    addresses = λ r h. address r (omega (arith, h, length-set ps p q));
    full = λ r h. full r (omega (arith, h, length-set ps p q));
    bytes = λ r h j. bytes r (omega (arith, h, length-set ps p q)) j;
  };
}
  where
    address : (r : ℕ) → r < length ps → (page_in (set ps p q) r).address ≡ address_of t r
    address r h =
        elim (cases_eq r p) [
          | inl same ↦ rw same (ap (λ x. x.address) (page_in-same ps p q l) ∙ a ∙ s.laid_out.addresses p l)
          | inr other ↦ ap (λ x. x.address) (page_in-other ps p r q other) ∙ s.laid_out.addresses r h
        ]

    full : (r : ℕ) → r < length ps → length (page_bytes (set ps p q) r) ≡ 4096
    full r h =
        elim (cases_eq r p) [
          | inl same ↦ rw same (ap (λ x. length x.bytes) (page_in-same ps p q l) ∙ b ∙ s.laid_out.full p l)
          | inr other ↦ ap (λ x. length x.bytes) (page_in-other ps p r q other) ∙ s.laid_out.full r h
        ]

    bytes : (r : ℕ) → r < length ps → (j : ℕ) → get_or (page_bytes (set ps p q) r) j 0 < 256
    bytes r h j =
        elim (cases_eq r p) [
          | inl same ↦ rw same (subst (λ (x : PageValue). get_or x.bytes j 0 < 256) (sym (page_in-same ps p q l)) (small j))
          | inr other ↦ subst (λ (x : PageValue). get_or x.bytes j 0 < 256) (sym (page_in-other ps p r q other)) (s.laid_out.bytes r h j)
        ]

-- ---- cell by cell

one_place : (t n x y p : ℕ) → IsSized t n → place_of t n x ≡ Some p → place_of t n y ≡ Some p → x ≡ y
one_place t n x y p s e f = grind (arith, nat_tests)

no_cell : (b : Bool) (x : ℕ) → None ≡ cond b (with_byte x None) None
no_cell true x = refl
no_cell false x = refl

one_cell : (b w e : Bool) (x y z : ℕ) → z ≡ cond b x y → ◌≡◌ {A = Option Cell} (Some (record { byte = z; writable = w; executable = e })) (cond b (Some (record { byte = x; writable = w; executable = e })) (Some (record { byte = y; writable = w; executable = e })))
one_cell true w e x y z h = ap (λ (n : ℕ). Some (record { byte = n; writable = w; executable = e })) h
one_cell false w e x y z h = ap (λ (n : ℕ). Some (record { byte = n; writable = w; executable = e })) h

same_within : (a q k : ℕ) → q / 4096 ≡ a / 4096 → a % 4096 + k ≤ 4096 → within (a % 4096) k (q % 4096) ≡ within a k q
same_within a q k e h = grind (arith, nat_tests)

byte_here : (bytes : List ℕ) (a k v q : ℕ) → q / 4096 ≡ a / 4096 → a % 4096 + k ≤ 4096 → length bytes ≡ 4096 → get_or (put_number bytes (a % 4096) k v) (q % 4096) 0 ≡ cond (within a k q) (byte_of_number (q - a) v) (get_or bytes (q % 4096) 0)
byte_here bytes a k v q e h l =
    let offset : q % 4096 - a % 4096 ≡ q - a = omega arith in
    get-put_number bytes (a % 4096) k v (q % 4096) (omega arith) ∙ rw (same_within a q k e h, offset) refl

byte_elsewhere : (a k q x y : ℕ) → q / 4096 ≢ a / 4096 → a % 4096 + k ≤ 4096 → y ≡ cond (within a k q) x y
byte_elsewhere a k q x y e h = grind (arith, nat_tests)

-- pages in which the page of an address got a number
record Puts (t : ℕ) (ps qs : List PageValue) (a k v p : ℕ) : Type 0 where
  sound : IsSound t ps
  place : place_of t (length ps) (a / 4096) ≡ Some p
  listed : p < length ps
  fits : a % 4096 + k ≤ 4096
  long : length qs ≡ length ps
  here : page_bytes qs p ≡ put_number (page_bytes ps p) (a % 4096) k v
  others : (r : ℕ) → r ≢ p → page_bytes qs r ≡ page_bytes ps r

stored_byte : (t : ℕ) (ps qs : List PageValue) (a k v p q r : ℕ) → Puts t ps qs a k v p → place_of t (length ps) (q / 4096) ≡ Some r → get_or (page_bytes qs r) (q % 4096) 0 ≡ cond (within a k q) (byte_of_number (q - a) v) (get_or (page_bytes ps r) (q % 4096) 0)
stored_byte t ps qs a k v p q r s f =
    elim (cases_eq r p) [
      | inl same ↦
          let here : place_of t (length ps) (q / 4096) ≡ Some p = f ∙ ap Some same in
          rw same (ap (λ (bs : List ℕ). get_or bs (q % 4096) 0) s.here ∙ byte_here (page_bytes ps p) a k v q (one_place t (length ps) _ _ p s.sound.sized here s.place) s.fits (s.sound.laid_out.full p s.listed))
      | inr other ↦
          let apart : q / 4096 ≢ a / 4096 = λ d. other (same_Some _ _ (sym f ∙ ap (place_of t (length ps)) d ∙ s.place)) in
          ap (λ (bs : List ℕ). get_or bs (q % 4096) 0) (s.others r other) ∙ byte_elsewhere a k q _ _ apart s.fits
    ]

stored_cell : (t : ℕ) (ps qs : List PageValue) (a k v p q : ℕ) (o : Option ℕ) → Puts t ps qs a k v p → place_of t (length ps) (q / 4096) ≡ o → cell_in t qs (q % 4096) o ≡ written a k v q (cell_in t ps (q % 4096) o)
stored_cell t ps qs a k v p q None s f = no_cell _ (byte_of_number (q - a) v)
stored_cell t ps qs a k v p q (Some r) s f = one_cell _ _ _ _ _ _ (stored_byte t ps qs a k v p q r s f)

stored_at : (t : ℕ) (ps qs : List PageValue) (a k v p q : ℕ) → Puts t ps qs a k v p → cell_at t qs q ≡ written a k v q (cell_at t ps q)
unfolding cell_at
stored_at t ps qs a k v p q s = rw s.long (stored_cell t ps qs a k v p q _ s refl)

stored : (t : ℕ) (ps qs : List PageValue) (a k v p : ℕ) → Puts t ps qs a k v p → cells_of t qs ≡ write (cells_of t ps) a k v
stored t ps qs a k v p s =
    let sized : IsSized t (length qs) = rw s.long s.sound.sized in
    same_map nat_cmp_total nat_cmp-IsAntisymmetric _ _ (λ q.
    get-cells_of t qs q sized
    ∙ stored_at t ps qs a k v p q s
    ∙ ap (written a k v q) (sym (get-cells_of t ps q s.sound.sized))
    ∙ sym (get-write (cells_of t ps) a k v q))

-- ---- the outcomes of a store

-- the page at a place, with a number put into it
abbrev pub put_in : List PageValue → ℕ → ℕ → ℕ → ℕ → PageValue
put_in ps p at k v = record (page_in ps p) { bytes = put_number (page_bytes ps p) at k v }

pub store_ok : (t : ℕ) (ps qs : List PageValue) (a v p : ℕ) (w : Width) → IsSound t ps → place_of t (length ps) (a / 4096) ≡ Some p → t ≤ p → p < length ps → a % bytes_of w ≡ 0 → qs ≡ set ps p (put_in ps p (a % 4096) (bytes_of w) v) → store_of (cells_of t ps) a (bytes_of w) v ≡ Ok (cells_of t qs)
store_ok t ps qs a v p w s e d l m is =
    let k : ℕ = bytes_of w in
    let q : PageValue = put_in ps p (a % 4096) k v in
    let right : nat_le t p ≡ true = grind (arith, nat_tests) in
    let writable : all_have is_writable (rights_at (cells_of t ps)) a (bytes_of w) ≡ true = all_in_page is_writable t ps a (bytes_of w) p right s.sized e (aligned_fits w a m) in
    let new : cells_of t qs ≡ write (cells_of t ps) a (bytes_of w) v = ap (cells_of t) is ∙ stored t ps (set ps p q) a k v p (record {
      sound = s;
      place = e;
      listed = l;
      fits = aligned_fits w a m;
      long = length-set ps p q;
      here = ap (λ x. x.bytes) (page_in-same ps p q l);
      others = λ r h. ap (λ x. x.bytes) (page_in-other ps p r q h);
    }) in
    rw (m, writable, new) refl

pub store_sound : (t : ℕ) (ps qs : List PageValue) (at k v p : ℕ) → IsSound t ps → p < length ps → qs ≡ set ps p (put_in ps p at k v) → IsSound t qs
store_sound t ps qs at k v p s l is =
    rw is (sound_set t ps p (put_in ps p at k v) s l refl (length-put_number (page_bytes ps p) at k v) (small-put_number (page_bytes ps p) at k v (s.laid_out.bytes p l)))

not_writable : (t : ℕ) (ps : List PageValue) (at : ℕ) (o : Option ℕ) → IfSome o (λ p. p < t) → is_writable (rights_of (cell_in t ps at o)) ≡ false
not_writable t ps at None h = refl
not_writable t ps at (Some p) h = grind (arith, nat_tests)

pub store_refused : (t : ℕ) (ps : List PageValue) (a v : ℕ) (w : Width) → IsSized t (length ps) → IfSome (place_of t (length ps) (a / 4096)) (λ p. p < t) → a % bytes_of w ≡ 0 → store_of (cells_of t ps) a (bytes_of w) v ≡ Err StoreAccess
store_refused t ps a v w s e m =
    let writable : all_have is_writable (rights_at (cells_of t ps)) a (bytes_of w) ≡ false = none_in_page is_writable t ps a (bytes_of w) (place_of t (length ps) (a / 4096)) (not_writable t ps (a % 4096) _ e) s refl (some_bytes w) in
    rw (m, writable) refl

-- pages that a refused store leaves show the memory that they showed
pub left_alike : {X : Type 0} (r : Result X Fault) (t : ℕ) (ps qs : List PageValue) (a k v : ℕ) → IfErr r (λ e. (store_of (cells_of t ps) a k v ≡ Err e) × (qs ≡ ps)) → IfErr r (λ e. (store_of (cells_of t ps) a k v ≡ Err e) × (cells_of t qs ≡ cells_of t ps))
left_alike (Ok x) t ps qs a k v h = tt
left_alike (Err e) t ps qs a k v h = (h.0, ap (cells_of t) h.1)

-- a page that was read at a place, with a number put into it
pub put_read : (ps : List PageValue) (p at k v : ℕ) (read new : PageValue) → p < length ps → new ≡ record (get_or ps p read) { bytes = put_number (get_or ps p read).bytes at k v } → new ≡ put_in ps p at k v
put_read ps p at k v read new l is =
    is ∙ ap (λ (q : PageValue). record q { bytes = put_number q.bytes at k v }) (get_or_default ps p read (record { address = 0; bytes = [] }) l)

-- ---- why a store would be refused

pub unrefused : (t : ℕ) (ps : List PageValue) (a v p : ℕ) (w : Width) → IsSized t (length ps) → place_of t (length ps) (a / 4096) ≡ Some p → t ≤ p → a % bytes_of w ≡ 0 → None ≡ result_err (store_of (cells_of t ps) a (bytes_of w) v)
unrefused t ps a v p w s e d m =
    let right : nat_le t p ≡ true = grind (arith, nat_tests) in
    let writable : all_have is_writable (rights_at (cells_of t ps)) a (bytes_of w) ≡ true = all_in_page is_writable t ps a (bytes_of w) p right s e (aligned_fits w a m) in
    rw (m, writable) refl
